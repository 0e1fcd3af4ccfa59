-- A sequence that grows in a size with a bound comes to rest.
use Rattle.std.proofs.Common.{◌≡◌, ℕ, zero, suc, ◌+◌, ◌*◌, ◌<◌, ◌≤◌, Bool, true, false, cond, not, ◌⊎◌, refl, inl, inr, ⊎_elim, arith}
use Rattle.std.proofs.lemmas.Bool.{both_ways, cases_eq}

-- the same with the same size, or greater
abbrev pub Growth : Type 0 → ℕ → ℕ → Type 0
Growth Same m n = (Same × (m ≡ n)) ⊎ (m < n)

pub growth_with : {S S' : Type 0} {m n : ℕ} → (S → S') → Growth S m n → Growth S' m n
growth_with f (inl h) = inl (f h.0, h.1)
growth_with f (inr h) = inr h

pub growth_both : {S S' : Type 0} {m n k l : ℕ} → Growth S m n → Growth S' k l → Growth (S × S') (m + k) (n + l)
growth_both (inl h) (inl h') =
    let e = h.1 in
    let e' = h'.1 in
    inl ((h.0, h'.0), omega arith)
growth_both (inl h) (inr h') = let e = h.1 in inr (omega arith)
growth_both (inr h) (inl h') = let e = h'.1 in inr (omega arith)
growth_both (inr h) (inr h') = inr (omega arith)

-- the sum of f below n
abbrev pub total : ℕ → (ℕ → ℕ) → ℕ
total zero f = 0
total (suc n) f = f n + total n f

one_more : (P : ℕ → Type 0) (n : ℕ) → P n × ((k : ℕ) → k < n → P k) → (k : ℕ) → k < suc n → P k
one_more P n h k lt = ⊎_elim (λ e. rw e h.0) (λ apart. h.1 k (omega arith)) (cases_eq k n)

pub total_grows : (n : ℕ) (f g : ℕ → ℕ) (Same : ℕ → Type 0) → ((k : ℕ) → k < n → Growth (Same k) (f k) (g k)) → Growth ((k : ℕ) → k < n → Same k) (total n f) (total n g)
total_grows zero f g Same each = inl (λ k lt. absurd (omega arith), refl)
total_grows (suc n) f g Same each = growth_with (one_more Same n) (growth_both (each n (omega arith)) (total_grows n f g Same (λ k lt. each k (omega arith))))

pub total_within : (n b : ℕ) (f : ℕ → ℕ) → ((k : ℕ) → k < n → f k ≤ b) → total n f ≤ n * b
total_within zero b f each = omega arith
total_within (suc n) b f each =
    let here : f n ≤ b = each n (omega arith) in
    let below : total n f ≤ n * b = total_within n b f (λ k lt. each k (omega arith)) in
    omega arith

-- Where each step either is at rest or grows, rest lasts, and no size passes the bound, the sequence
-- is at rest from the bound on.
module _ (Rest : ℕ → Type 0) (size : ℕ → ℕ) (bound : ℕ) (step : (i : ℕ) → Rest i ⊎ (size i < size (suc i))) (lasts : (i : ℕ) → Rest i → Rest (suc i)) (within : (i : ℕ) → size i ≤ bound) where
  grown : (i : ℕ) → Rest i ⊎ (suc i ≤ size (suc i))
  grown zero = ⊎_elim inl (λ h. inr (omega arith)) (step zero)
  grown (suc i) = ⊎_elim (λ h. inl (lasts i h)) (λ h. ⊎_elim inl (λ g. inr (omega arith)) (step (suc i))) (grown i)

  pub settles : (i : ℕ) → bound ≤ i → Rest i
  settles i past = ⊎_elim (λ h. h) (λ h. let w = within (suc i) in absurd (omega arith)) (grown i)

pub bit : Bool → ℕ
bit b = cond b 1 0

pub bit_within : (b : Bool) → bit b ≤ 1
unfolding bit
bit_within true = omega arith
bit_within false = omega arith

pub bit_grows : (b b' : Bool) → (b ≡ true → b' ≡ true) → Growth (b ≡ b') (bit b) (bit b')
unfolding bit
bit_grows true b' h = let e = h refl in inl (rw e, rw e)
bit_grows false true h = inr (omega arith)
bit_grows false false h = inl (refl, refl)

-- the same downwards, counting what fails
pub bit_falls : (b b' : Bool) → (b' ≡ true → b ≡ true) → Growth (b ≡ b') (bit (not b)) (bit (not b'))
unfolding bit
bit_falls true true h = inl (refl, refl)
bit_falls true false h = inr (omega arith)
bit_falls false true h = absurd (both_ways false refl (h refl))
bit_falls false false h = inl (refl, refl)
