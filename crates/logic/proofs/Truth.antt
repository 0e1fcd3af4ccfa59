-- Tests as statements: what one test implies of another.
use Rattle.std.proofs.Common.{◌≡◌, Bool, true, false, not, ◌||◌, refl}
use Rattle.std.proofs.lemmas.Bool.{both_ways}
use Rattle.std.proofs.lemmas.Bool.Decides.{same_from_decides}

pub tests_same : (a b : Bool) → (a ≡ true → b ≡ true) → (b ≡ true → a ≡ true) → a ≡ b
tests_same a b h k = same_from_decides {P = b ≡ true} a b (h, k) (λ e. e, λ e. e)

pub not_so : (a b : Bool) → (a ≡ true → b ≡ true) → b ≡ false → a ≡ false
not_so true b h e = absurd (both_ways b e (h refl))
not_so false b h e = refl

-- a guarded test, `not a || b`, is an implication
pub guarded_to : (a b : Bool) → (not a || b) ≡ true → a ≡ true → b ≡ true
guarded_to true b h _ = h
guarded_to false b _ e = absurd (both_ways false refl e)

pub guarded_from : (a b : Bool) → (a ≡ true → b ≡ true) → (not a || b) ≡ true
guarded_from true b h = h refl
guarded_from false b h = refl
