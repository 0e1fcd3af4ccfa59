-- A text cut in two at a byte.
use Rattle.std.proofs.Common.{◌≡◌, ℕ, suc, ◌<◌, ◌≤◌, List, [], ◌∷◌, ◌++◌, length, take, drop, Some, None, refl, arith, MatchOption}
use Rattle.std.proofs.lemmas.Bool.Decides.{nat_tests}
use Rattle.std.proofs.lemmas.List.{take_rest}
use Rattle.text.specs.Bytes.{before, cut}
use Rattle.text.proofs.Before.{Without}

-- a text that is cut at the b after a part without b
pub cut_append : (b : ℕ) (w r : List ℕ) → Without b w → cut b (w ++ b ∷ r) ≡ Some (w, r)
cut_append b [] r h = grind (arith, nat_tests)
cut_append b (x ∷ w) r h = grind (arith, nat_tests, cut_append b w r)

-- a text without b is not cut
pub cut_without : (b : ℕ) (xs : List ℕ) → Without b xs → cut b xs ≡ None
cut_without b [] h = refl
cut_without b (x ∷ xs) h = grind (arith, nat_tests, cut_without b xs)

-- one that is not cut is without b, and one that is cut is its two parts with b between them
cut_parts : (b : ℕ) (xs : List ℕ) → MatchOption (cut b xs) (Without b xs) (λ p. (xs ≡ p.0 ++ b ∷ p.1) × Without b p.0)
cut_parts b [] = refl
cut_parts b (x ∷ xs) = grind (arith, nat_tests, cut_parts b xs)

pub cut_none : (b : ℕ) (xs : List ℕ) → cut b xs ≡ None → Without b xs
cut_none b xs h = rw h at (cut_parts b xs)

pub cut_some : (b : ℕ) (xs w r : List ℕ) → cut b xs ≡ Some (w, r) → (xs ≡ w ++ b ∷ r) × Without b w
cut_some b xs w r h = rw h at (cut_parts b xs)

-- a text is cut at the place of its first b, and not at all where it ends before any
pub cut_place : (b : ℕ) (xs : List ℕ) → length (before b xs) < length xs → cut b xs ≡ Some (take (length (before b xs)) xs, drop (suc (length (before b xs))) xs)
cut_place b [] l = grind arith
cut_place b (x ∷ xs) l = grind (arith, nat_tests, cut_place b xs)

pub cut_past : (b : ℕ) (xs : List ℕ) → length xs ≤ length (before b xs) → cut b xs ≡ None
cut_past b [] l = refl
cut_past b (x ∷ xs) l = grind (arith, nat_tests, cut_past b xs)

-- the same of the two parts as slices
pub ruleset cuts = (cut_place, cut_past, take_rest)
