-- The part of a text before a byte.
use Rattle.std.proofs.Common.{◌≡◌, ℕ, suc, ◌<◌, ◌≤◌, Bool, true, false, eqb, ◌==◌, ◌⊎◌, List, [], ◌∷◌, ◌++◌, length, take, drop, refl, ap, inl, inr, arith, MatchOption}
use Rattle.std.specs.List.{position}
use Rattle.std.proofs.lemmas.Bool.{eqb-true}
use Rattle.std.proofs.lemmas.Bool.Decides.{nat_tests}
use Rattle.text.specs.Bytes.{before}

-- the byte b does not stand in the text u
abbrev pub Without : ℕ → List ℕ → Type 0
Without b u = before b u ≡ u

pub without_cons : (b x : ℕ) (xs : List ℕ) → eqb x b ≡ false → Without b xs → Without b (x ∷ xs)
without_cons b x xs e h = grind (arith, nat_tests)

pub without_parts : (b x : ℕ) (xs : List ℕ) → Without b (x ∷ xs) → (eqb x b ≡ false) × Without b xs
without_parts b x xs h = grind (arith, nat_tests)

-- two texts without b, one after the other, are without b
pub without_append : (b : ℕ) (u v : List ℕ) → Without b u → Without b v → Without b (u ++ v)
without_append b [] v h k = k
without_append b (x ∷ u) v h k = grind (arith, nat_tests, without_append b u v)

-- the part before b has no b
pub before_without : (b : ℕ) (xs : List ℕ) → Without b (before b xs)
before_without b [] = refl
before_without b (x ∷ xs) = grind (arith, nat_tests, before_without b xs)

-- a text is the part before its first b, and then nothing, or b and the rest
abbrev pub Split : ℕ → List ℕ → Type 0
Split b xs = (xs ≡ before b xs) ⊎ (xs ≡ before b xs ++ b ∷ drop (suc (length (before b xs))) xs)

pub before_split : (b : ℕ) (xs : List ℕ) → Split b xs
before_split b [] = inl refl
before_split b (x ∷ xs) = go (before_split b xs) (eqb x b) refl
  where
    go : Split b xs → (t : Bool) → eqb x b ≡ t → Split b (x ∷ xs)
    go h true e = inr (rw e (ap (λ y. y ∷ xs) (eqb-true x b e)))
    go (inl h) false e = inl (rw e (ap (λ ys. x ∷ ys) h))
    go (inr h) false e = inr (rw e (ap (λ ys. x ∷ ys) h))

-- the part before b, where b is known to follow it
pub before_append : (b : ℕ) (u r : List ℕ) → Without b u → before b (u ++ b ∷ r) ≡ u
before_append b [] r h = grind (arith, nat_tests)
before_append b (x ∷ u) r h = grind (arith, nat_tests, before_append b u r)

-- the part before b is a front of the text
pub before_length : (b : ℕ) (xs : List ℕ) → length (before b xs) ≤ length xs
before_length b [] = omega arith
before_length b (x ∷ xs) = grind (arith, nat_tests, before_length b xs)

pub before_take : (b : ℕ) (xs : List ℕ) → take (length (before b xs)) xs ≡ before b xs
before_take b [] = refl
before_take b (x ∷ xs) = grind (arith, nat_tests, before_take b xs)

-- the place of the first b is the length of the part before it
pub place_before : (b : ℕ) (xs : List ℕ) → MatchOption (position (λ x. x == b) xs) (Without b xs) (λ at. (at < length xs) × (at ≡ length (before b xs)))
place_before b [] = refl
place_before b (x ∷ xs) = grind (arith, nat_tests, place_before b xs)
