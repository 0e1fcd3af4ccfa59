-- A monotone body iterated from no state comes to rest at its least fixed point, and from every
-- state at its greatest.
use Rattle.std.proofs.Common.{◌≡◌, ℕ, zero, suc, ◌+◌, ◌*◌, ◌≤◌, false, not, refl, inl, inr, ⊎_elim, arith}
use Rattle.std.proofs.lemmas.Bool.{both_ways}
use Rattle.calculus.specs.Pairs.{Pair, Same, Within}
use Rattle.logic.proofs.Counting.{Growth, total, total_grows, total_within, growth_both, settles, bit, bit_grows, bit_falls, bit_within}
use Rattle.logic.proofs.Denotation.{iterate, none, every}
use Rattle.logic.proofs.Pairs.{same_sym, within_trans, within_from_same, same_from_within}

-- upwards from no state, or downwards from every state
pub data Direction : Type 0 where
  rising falling : Direction

abbrev pub Toward : Direction → ℕ → Pair → Pair → Type 0
Toward rising n p q = Within n p q
Toward falling n p q = Within n q p

abbrev pub origin : Direction → Pair
origin rising = none
origin falling = every

-- what counts towards the size of a pair: the states in its sets, or those outside them
weight : Direction → Pair → ℕ → ℕ
weight rising p s = bit (p.necessary s) + bit (p.possibly s)
weight falling p s = bit (not (p.necessary s)) + bit (not (p.possibly s))

-- how far a pair is on the way
pub size : Direction → ℕ → Pair → ℕ
size d n p = total n (weight d p)

pub size_grows : (d : Direction) (n : ℕ) (p q : Pair) → Toward d n p q → Growth (Same n p q) (size d n p) (size d n q)
unfolding size weight
size_grows rising n p q h =
    total_grows n (weight rising p) (weight rising q) (λ s. (p.necessary s ≡ q.necessary s) × (p.possibly s ≡ q.possibly s))
    (λ s lt. growth_both (bit_grows (p.necessary s) (q.necessary s) (h s lt).0) (bit_grows (p.possibly s) (q.possibly s) (h s lt).1))
size_grows falling n p q h =
    total_grows n (weight falling p) (weight falling q) (λ s. (p.necessary s ≡ q.necessary s) × (p.possibly s ≡ q.possibly s))
    (λ s lt. growth_both (bit_falls (p.necessary s) (q.necessary s) (h s lt).0) (bit_falls (p.possibly s) (q.possibly s) (h s lt).1))

weight_within : (d : Direction) (p : Pair) (s : ℕ) → weight d p s ≤ 2
unfolding weight
weight_within rising p s = omega (arith, bit_within (p.necessary s), bit_within (p.possibly s))
weight_within falling p s = omega (arith, bit_within (not (p.necessary s)), bit_within (not (p.possibly s)))

pub size_within : (d : Direction) (n : ℕ) (p : Pair) → size d n p ≤ n * 2
unfolding size
size_within d n p = total_within n 2 (weight d p) (λ s lt. weight_within d p s)

pub toward_origin : (d : Direction) (n : ℕ) (p : Pair) → Toward d n (origin d) p
toward_origin rising n p = λ s lt. (λ e. absurd (both_ways false refl e), λ e. absurd (both_ways false refl e))
toward_origin falling n p = λ s lt. (λ e. refl, λ e. refl)

pub toward_trans : (d : Direction) (n : ℕ) (p q r : Pair) → Toward d n p q → Toward d n q r → Toward d n p r
toward_trans rising n p q r h k = within_trans n p q r h k
toward_trans falling n p q r h k = within_trans n r q p k h

pub toward_from_same : (d : Direction) (n : ℕ) (p q : Pair) → Same n p q → Toward d n p q
toward_from_same rising n p q h = within_from_same n p q h
toward_from_same falling n p q h = within_from_same n q p (same_sym n p q h)

abbrev pub Monotone : ℕ → (Pair → Pair) → Type 0
Monotone n F = (p q : Pair) → Within n p q → Within n (F p) (F q)

toward_step : (d : Direction) (n : ℕ) (F : Pair → Pair) → Monotone n F → (p q : Pair) → Toward d n p q → Toward d n (F p) (F q)
toward_step rising n F mono p q h = mono p q h
toward_step falling n F mono p q h = mono q p h

module _ (d : Direction) (n : ℕ) (F : Pair → Pair) (mono : Monotone n F) where
  pub climbs : (i : ℕ) → Toward d n (iterate i F (origin d)) (iterate (suc i) F (origin d))
  climbs zero = toward_origin d n (F (origin d))
  climbs (suc i) = toward_step d n F mono (iterate i F (origin d)) (iterate (suc i) F (origin d)) (climbs i)

  step_same : (p q : Pair) → Same n p q → Same n (F p) (F q)
  step_same p q h = same_from_within n (F p) (F q) (mono p q (within_from_same n p q h)) (mono q p (within_from_same n q p (same_sym n p q h)))

  -- After two steps for each state the iteration is at rest: at a fixed point.
  pub at_rest : (i : ℕ) → n * 2 ≤ i → Same n (iterate i F (origin d)) (iterate (suc i) F (origin d))
  at_rest =
      settles (λ i. Same n (iterate i F (origin d)) (iterate (suc i) F (origin d))) (λ i. size d n (iterate i F (origin d))) (n * 2)
      (λ i. ⊎_elim (λ h. inl h.0) inr (size_grows d n (iterate i F (origin d)) (iterate (suc i) F (origin d)) (climbs i)))
      (λ i h. step_same (iterate i F (origin d)) (iterate (suc i) F (origin d)) h)
      (λ i. size_within d n (iterate i F (origin d)))

  -- No iterate passes a fixed point, nor a pair that the body leads back towards the origin.
  pub stays_before : (r : Pair) → Toward d n (F r) r → (i : ℕ) → Toward d n (iterate i F (origin d)) r
  stays_before r h zero = toward_origin d n r
  stays_before r h (suc i) = toward_trans d n (F (iterate i F (origin d))) (F r) r (toward_step d n F mono (iterate i F (origin d)) r (stays_before r h i)) h
