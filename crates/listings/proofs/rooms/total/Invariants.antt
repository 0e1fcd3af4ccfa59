use Rattle.std.proofs.Common.{◌≡◌, ℕ, ◌<◌, ◌≤◌, ◌*◌}
use Rattle.listings.specs.Rooms.{sum_below}
use Rattle.listings.proofs.rooms.total.Given as goal

-- the sum so far, and its bound
abbrev pub invariant-loop-i : goal.invariant-loop-i
invariant-loop-i g l = record {
  bound : l.sum ≤ l.i * l.most;
  value : (f : ℕ → ℕ) → ((i r : ℕ) → i < l.i → goal.F-post g l.count i r → r ≡ f i) → l.sum ≡ sum_below l.i f;
}
