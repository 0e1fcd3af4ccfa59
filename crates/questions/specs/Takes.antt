-- A frame's listing followed by formulas, taken line by line.
use Rattle.std.specs.Prelude.{◌≡◌, ℕ, suc, ◌<◌, ◌≤◌, Bool, ◌&&◌, List, Ok, Err, codes, MatchBool, Result}
use Rattle.std.specs.Str.{bytes_eq}
use Rattle.calculus.specs.Formula.{Formula}
use Rattle.formulas.specs.Readings.{Accepted, Refused}
use Rattle.listings.specs.Parts.{step, stage_then, made_after, may_end}
use Rattle.listings.specs.Runs.{Verdict, rejected, verdict_at}
use Rattle.listings.specs.declared.part.Stage.{Stage}
use Rattle.systems.specs.Making.{Making}
use Rattle.systems.specs.Meaning.{Meaning, actions, lamps}
use Rattle.systems.specs.declared.refusal.Refusal.{Refusal}
use Rattle.systems.specs.declared.refusal.Refusal.TheVariants.{Full}
use Rattle.questions.specs.declared.phase.Phase.{Phase}
use Rattle.questions.specs.declared.phase.Phase.TheVariants.{Part, Formulas}

-- at most so many formulas
abbrev pub most_formulas : ℕ
most_formulas = 1024

-- the line that ends a frame's part and begins the formulas
abbrev pub begins : Stage → List ℕ → Bool
begins stage l = may_end stage && bytes_eq l (codes "formula")

-- A line of the number n that should be a closed formula over the letters of M, where so many came
-- before it: it is refused as a formula first, and as one too many only if it is good otherwise.
pub data Asked (M : Meaning) (n : ℕ) (l : List ℕ) : ℕ → ℕ → Verdict → Type 0 where
  asked : {count : ℕ} → (f : Formula) → Accepted (actions M) (lamps M) l f → count < most_formulas → Asked M n l count (suc count) (Ok tt)
  too_many : {count : ℕ} → (f : Formula) → Accepted (actions M) (lamps M) l f → most_formulas ≤ count → Asked M n l count count (Err (rejected Full n))
  refused : {count : ℕ} {e : Refusal} → Refused (actions M) (lamps M) l e → Asked M n l count count (Err (rejected e n))

-- what a line of the part makes of the frame and of the phase
pub record InPart (m : Making) (stage : Stage) (n : ℕ) (l : List ℕ) (m' : Making) (phase' : Phase) (v : Verdict) : Type 0 where
  pub answer : v ≡ verdict_at n (step stage m l)
  pub made : m' ≡ made_after (step stage m l) m
  pub next : phase' ≡ Part (stage_then (step stage m l) stage)

-- the names of the formulas leave the frame as it is
pub record AtNames (m m' : Making) (phase' : Phase) (v : Verdict) : Type 0 where
  pub answer : v ≡ Ok tt
  pub made : m' ≡ m
  pub next : phase' ≡ Formulas

pub record InFormulas (m : Making) (n : ℕ) (l : List ℕ) (count : ℕ) (m' : Making) (phase' : Phase) (count' : ℕ) (v : Verdict) : Type 0 where
  pub made : m' ≡ m
  pub next : phase' ≡ Formulas
  pub answer : Asked m.system n l count count' v

-- what one line, of the number n, makes of the frame m, the phase and the count of formulas, and what is answered
abbrev pub Takes : Making → Phase → ℕ → ℕ → List ℕ → Making → Phase → ℕ → Verdict → Type 0
Takes m (Part stage) count n l m' phase' count' v = (count' ≡ count) × MatchBool (begins stage l) (AtNames m m' phase' v) (InPart m stage n l m' phase' v)
Takes m Formulas count n l m' phase' count' v = InFormulas m n l count m' phase' count' v

-- the same with the new count in the answer
abbrev pub Counted : Meaning → ℕ → List ℕ → ℕ → Result ℕ Refusal → Type 0
Counted M n l count (Ok count') = Asked M n l count count' (Ok tt)
Counted M n l count (Err e) = Asked M n l count count (Err (rejected e n))
