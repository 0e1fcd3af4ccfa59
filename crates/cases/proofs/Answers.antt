-- A mark from the sets of a formula.
use Rattle.std.proofs.Common.{◌≡◌, ℕ, ◌<◌, List, Ok, Err, Result, sym}
use Rattle.calculus.specs.Marks.{mark_of}
use Rattle.calculus.specs.declared.syntax.Mark.{Mark}
use Rattle.marking.specs.Evaluated.{word_pair}
use Rattle.sets.specs.Sets.{Set}
use Rattle.systems.specs.Meaning.{Meaning, states}
use Rattle.systems.specs.declared.refusal.Refusal.{Refusal}
use Rattle.cases.specs.Marks.{SetsAnswer, MarkAnswer, found, refused, marked}

-- what the answer of `sets` says of a mark that is taken from it
abbrev Then : Meaning → ℕ → List ℕ → Result (Set × Set) Refusal → Type 0
Then M s t (Ok w) = (m : Mark) → m ≡ mark_of (word_pair w) s → MarkAnswer M s t (Ok m)
Then M s t (Err e) = MarkAnswer M s t (Err e)

pub then_marked : (M : Meaning) (s : ℕ) (t : List ℕ) → s < states M → {r : Result (Set × Set) Refusal} → SetsAnswer M t r → Then M s t r
then_marked M s t within (found f w good means) = λ m is. marked f m within good (word_pair w, means.means, sym is)
then_marked M s t within (refused e no-reading) = MarkAnswer.refused e within no-reading
