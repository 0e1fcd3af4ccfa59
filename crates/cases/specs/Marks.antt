-- What a case answers of a formula's text.
use Rattle.std.specs.Prelude.{ℕ, ◌<◌, ◌≤◌, List, Ok, Err, Result}
use Rattle.calculus.specs.Formula.{Formula}
use Rattle.calculus.specs.Marks.{Marked}
use Rattle.calculus.specs.declared.syntax.Mark.{Mark}
use Rattle.formulas.specs.Readings.{Accepted, Refused}
use Rattle.marking.specs.Evaluated.{Evaluates}
use Rattle.sets.specs.Sets.{Set}
use Rattle.systems.specs.Meaning.{Meaning, states, actions, lamps}
use Rattle.systems.specs.declared.refusal.Refusal.{Refusal}
use Rattle.systems.specs.declared.refusal.Refusal.TheVariants.{NoState}

-- the text is read as a formula whose necessary and possible set are these words, or it is refused
pub data SetsAnswer (M : Meaning) (t : List ℕ) : Result (Set × Set) Refusal → Type 0 where
  found : (f : Formula) (w : Set × Set) → Accepted (actions M) (lamps M) t f → Evaluates M f w → SetsAnswer M t (Ok w)
  refused : (e : Refusal) → Refused (actions M) (lamps M) t e → SetsAnswer M t (Err e)

-- the text is read as a formula by which the state s is marked so, or there is no such state, or the text is refused
pub data MarkAnswer (M : Meaning) (s : ℕ) (t : List ℕ) : Result Mark Refusal → Type 0 where
  marked : (f : Formula) (m : Mark) → s < states M → Accepted (actions M) (lamps M) t f → Marked M f s m → MarkAnswer M s t (Ok m)
  no_state : states M ≤ s → MarkAnswer M s t (Err NoState)
  refused : (e : Refusal) → s < states M → Refused (actions M) (lamps M) t e → MarkAnswer M s t (Err e)
