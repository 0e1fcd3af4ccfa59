use Rattle.std.proofs.Common.{◌≡◌, ℕ, ◌<◌, true}
use Rattle.sets.specs.Sets.{has}
use Rattle.sets.proofs.select.Given as goal

-- the numbers so far are those that passed
abbrev pub invariant-loop-i : goal.invariant-loop-i
invariant-loop-i g l = record {
  below : (k : ℕ) → has l.found k ≡ true → k < l.i;
  passed : (k : ℕ) → k < l.i → goal.F-post g l.test k (has l.found k);
}
