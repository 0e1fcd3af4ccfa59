-- What joining the states of a system to their classes answers, and what it shows.
use Rattle.std.specs.Prelude.{◌≡◌, ℕ, ◌<◌, cond, List, length, IfOk, Ok, Err, MatchResult, ◌==◌, slice_index}
use Rattle.sets.specs.Sets.{Set, has}
use Rattle.systems.specs.Edits.{Answer}
use Rattle.systems.specs.Meaning.{Meaning, states}
use Rattle.systems.specs.Refinement.{Refines}
use Rattle.systems.specs.declared.refusal.Refusal.TheVariants.{Mismatch, Rows}
use Rattle.folds.specs.Folds.{class_of, fold_meaning}
use Rattle.folds.specs.Readings.{Exact, RefinedByClass}

-- a fold with states, and a row for each state of the system
abbrev pub join_answer : Meaning → List ℕ → ℕ → ℕ → Answer
join_answer M cs count rows =
    cond (states (fold_meaning M cs count) == 0) (Err Mismatch)
    (cond (rows == states M) (Ok tt) (Err Rows))

-- each row holds just the class of its state
abbrev pub RowsOf : List ℕ → List Set → Type 0
RowsOf cs rows = (s : ℕ) → s < length rows → (j : ℕ) → has (slice_index rows s) j ≡ (j == class_of cs s)

-- the rows where the call goes through, and else that it changes nothing
abbrev pub LeftBehind : Answer → List ℕ → List Set → List Set → Type 0
LeftBehind r cs before now = MatchResult r (λ _. RowsOf cs now) (λ _. now ≡ before)

-- the fold is the abstraction of the system, the system refines it, and the rows show that
pub record Faithful (M : Meaning) (cs : List ℕ) (count : ℕ) (r : Answer) (rows : List Set) : Type 0 where
  pub exact : Exact M cs count
  pub refined : RefinedByClass M cs count
  pub joined : IfOk r (λ _. Refines M (fold_meaning M cs count) (λ c a. has (slice_index rows c) a))
