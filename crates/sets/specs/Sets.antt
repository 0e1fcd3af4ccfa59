-- A machine word as a set of numbers.
use Rattle.std.specs.Prelude.{◌≡◌, ℕ, ◌/◌, ◌%◌, ◌^◌, ◌<◌, Bool, true, ◌==◌}

-- a set, as it is held; the numbers that it can hold are those below the width
abbrev pub Set : Type 0
Set = ℕ

abbrev pub width : ℕ
width = 64

-- the number j is in the set: bit j of the word is 1, where bit 0 counts 1
abbrev pub has : Set → ℕ → Bool
has w j = w / 2 ^ j % 2 == 1

-- the set has just those numbers below n, as far as a set goes, that pass
pub record Selected (n : ℕ) (passes : ℕ → Bool → Type 0) (w : Set) : Type 0 where
  pub below : (i : ℕ) → has w i ≡ true → (i < n) × (i < width)
  pub passed : (i : ℕ) → i < n → i < width → passes i (has w i)
