-- A selection among the states, by a test that computes.
use Rattle.std.proofs.Common.{◌≡◌, ℕ, ◌≤◌, Bool, subst}
use Rattle.marking.specs.Holding.{Filled}
use Rattle.sets.proofs.Selections.{selected}
use Rattle.sets.specs.Sets.{Set, width, Selected}

pub filled : (n k : ℕ) (passes : ℕ → Bool → Type 0) (w : Set) (g : ℕ → Bool) → n ≡ k → k ≤ width → ((i : ℕ) (b : Bool) → passes i b → b ≡ g i) → Selected n passes w → Filled k g w
filled n k passes w g is few computes s = selected k passes w g few (λ i b lt. computes i b) (subst (λ m. Selected m passes w) is s)
