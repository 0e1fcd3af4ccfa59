use Rattle.std.proofs.Common.{◌≡◌, ℕ, ◌<◌, eqb, get_or}
use Rattle.sets.specs.Sets.{has}
use Rattle.folds.specs.Folds.{class_of}
use Rattle.folds.proofs.joins.fill.Given as goal

abbrev pub invariant-loop-state : goal.invariant-loop-state
invariant-loop-state l =
    (s : ℕ) → s < l.state → (j : ℕ) → has (get_or l.rows s 0) j ≡ eqb j (class_of l.classes.of s)
