-- Words by their bits: what the operations on words do to membership, and that words of one width
-- with the same members are equal.
use Rattle.std.proofs.Common.{◌≡◌, ℕ, zero, suc, ◌-◌, ◌/◌, ◌%◌, ◌^◌, ◌<◌, ◌≤◌, Bool, true, false, not, ◌&&◌, ◌||◌, eqb, ltb, ◌⊎◌, Decides, sym, refl, ap, ◌∙◌, inl, inr, ⊎_elim, div-one, arith, shr-shr}
use lib.Bits.{bit_and, bit_or, and_step, or_step, and_shr, or_shr, and_le_l}
use Rattle.std.proofs.lemmas.Nat.{pow_pos}
use Rattle.std.proofs.lemmas.Bool.{both_ways, not-true, not_from_false, eq-eqb, ne_eqb, eqb-true, and_parts, cases_lt}
use Rattle.std.proofs.lemmas.Bool.Decides.{nat_tests}
use Rattle.sets.specs.Sets.{has}

or_bit : (a b : ℕ) → eqb (bit_or a b % 2) 1 ≡ (eqb (a % 2) 1 || eqb (b % 2) 1)
or_bit a b = grind (arith, nat_tests, or_step a b)

and_bit : (a b : ℕ) → eqb (bit_and a b % 2) 1 ≡ (eqb (a % 2) 1 && eqb (b % 2) 1)
and_bit a b = grind (arith, nat_tests, and_step a b)

pub has_or : (a b j : ℕ) → has (bit_or a b) j ≡ (has a j || has b j)
has_or a b j = rw or_shr (or_bit (a / 2 ^ j) (b / 2 ^ j))

pub has_and : (a b j : ℕ) → has (bit_and a b) j ≡ (has a j && has b j)
has_and a b j = rw and_shr (and_bit (a / 2 ^ j) (b / 2 ^ j))

-- the bit 0, and the others by the word's half
pub has_low : (w : ℕ) → has w 0 ≡ eqb (w % 2) 1
has_low w = rw div-one

pub has_high : (w j : ℕ) → has w (suc j) ≡ has (w / 2) j
has_high w j = sym (ap (λ n. eqb (n % 2) 1) (shr-shr w 1 j ∙ ap (λ e. w / 2 ^ e) (omega arith)))

pub has_zero : (j : ℕ) → has 0 j ≡ false
has_zero zero = refl
has_zero (suc j) = has_high 0 j ∙ has_zero j

-- no bit at or beyond the width
pub has_beyond : (k w j : ℕ) → w < 2 ^ k → k ≤ j → has w j ≡ false
has_beyond zero w j small far = ap (λ n. has n j) (omega arith) ∙ has_zero j
has_beyond (suc k) w zero small far = absurd (omega arith)
has_beyond (suc k) w (suc j) small far = has_high w j ∙ has_beyond k (w / 2) j (omega arith) (omega arith)

pub has_power : (i j : ℕ) → has (2 ^ i) j ≡ eqb j i
has_power zero zero = refl
has_power zero (suc j) = has_high 1 j ∙ has_zero j ∙ grind (arith, nat_tests)
has_power (suc i) zero = has_low (2 ^ suc i) ∙ grind (arith, nat_tests)
has_power (suc i) (suc j) = has_high (2 ^ suc i) j ∙ ap (λ n. has n j) (omega arith) ∙ has_power i j ∙ grind (arith, nat_tests)

pub has_ones : (n j : ℕ) → has (2 ^ n - 1) j ≡ ltb j n
has_ones zero j = has_zero j ∙ grind (arith, nat_tests)
has_ones (suc n) zero = has_low (2 ^ suc n - 1) ∙ grind (arith, nat_tests, pow_pos n)
has_ones (suc n) (suc j) = has_high (2 ^ suc n - 1) j ∙ ap (λ m. has m j) (omega arith) ∙ has_ones n j ∙ grind (arith, nat_tests)

-- the members of the complement of a word of the width k, below it
pub has_complement : (k b j : ℕ) → b < 2 ^ k → j < k → has (2 ^ k - 1 - b) j ≡ not (has b j)
has_complement zero b j small within = absurd (omega arith)
has_complement (suc k) b zero small within = has_low (2 ^ suc k - 1 - b) ∙ grind (arith, nat_tests, pow_pos k) ∙ ap not (sym (has_low b))
has_complement (suc k) b (suc j) small within = has_high (2 ^ suc k - 1 - b) j ∙ ap (λ m. has m j) (omega arith) ∙ has_complement k (b / 2) j (omega arith) (omega arith) ∙ ap not (sym (has_high b j))

-- a word is 0, or has a member
pub some_member : (k w : ℕ) → w < 2 ^ k → (w ≡ 0) ⊎ ((j : ℕ) × (has w j ≡ true))
some_member zero w small = inl (omega arith)
some_member (suc k) w small = ⊎_elim (λ none. at_low w none) (λ some. inr (suc some.0, has_high w some.0 ∙ some.1)) (some_member k (w / 2) (omega arith))
  where
    at_low : (w : ℕ) → w / 2 ≡ 0 → (w ≡ 0) ⊎ ((j : ℕ) × (has w j ≡ true))
    at_low zero none = inl refl
    at_low (suc w) none = inr (0, has_low (suc w) ∙ grind (arith, nat_tests))

-- words of one width with the same members are equal
pub same_word : (k a b : ℕ) → a < 2 ^ k → b < 2 ^ k → ((j : ℕ) → has a j ≡ has b j) → a ≡ b
same_word zero a b small-a small_b same = omega arith
same_word (suc k) a b small-a small_b same =
    let half : a / 2 ≡ b / 2 = same_word k (a / 2) (b / 2) (omega arith) (omega arith) (λ j. sym (has_high a j) ∙ same (suc j) ∙ has_high b j) in
    let low : eqb (a % 2) 1 ≡ eqb (b % 2) 1 = sym (has_low a) ∙ same 0 ∙ has_low b in
    grind (arith, nat_tests, half, low)

-- the members of a whole set, of a set with one more, and of a difference, at the width k
pub has_all : (k n j : ℕ) → k ≤ n → has (2 ^ k - 1) j ≡ (ltb j n && ltb j k)
has_all k n j far = has_ones k j ∙ grind (arith, nat_tests)

pub has_below : (k n j : ℕ) → n < k → has (2 ^ n - 1) j ≡ (ltb j n && ltb j k)
has_below k n j near = has_ones n j ∙ grind (arith, nat_tests)

pub has_with : (k w j i : ℕ) → j < k → has (bit_or w (2 ^ j)) i ≡ (has w i || (eqb i j && ltb i k))
has_with k w j i within = has_or w (2 ^ j) i ∙ ap (λ b. has w i || b) (has_power j i ∙ grind (arith, nat_tests))

pub has_minus : (k a b i : ℕ) → a < 2 ^ k → b < 2 ^ k → has (bit_and a (2 ^ k - 1 - b)) i ≡ (has a i && not (has b i))
has_minus k a b i small-a small_b = has_and a (2 ^ k - 1 - b) i ∙ ⊎_elim (λ within. ap (λ c. has a i && c) (has_complement k b i small_b within)) (λ far. grind (arith, nat_tests, has_beyond k a i small-a far)) (cases_lt i k)

pub meets_word : (k a b : ℕ) → a < 2 ^ k → Decides (not (eqb (bit_and a b) 0)) ((j : ℕ) × ((has a j && has b j) ≡ true))
meets_word k a b small = (
  λ some. ⊎_elim (λ none. absurd (both_ways (eqb (bit_and a b) 0) (not-true (eqb (bit_and a b) 0) some) (eq-eqb (bit_and a b) 0 none))) (λ (m : (j : ℕ) × (has (bit_and a b) j ≡ true)). (m.0, sym (has_and a b m.0) ∙ m.1)) (some_member k (bit_and a b) (omega (arith, and_le_l a b))),
  λ m. not_from_false (eqb (bit_and a b) 0) (ne_eqb (bit_and a b) 0 (λ none. both_ways (has (bit_and a b) m.0) (ap (λ w. has w m.0) none ∙ has_zero m.0) (has_and a b m.0 ∙ m.1))),
)

pub within_word : (k a b : ℕ) → a < 2 ^ k → Decides (eqb (bit_and a b) a) ((j : ℕ) → has a j ≡ true → has b j ≡ true)
within_word k a b small = (
  λ same j member. (and_parts (has a j) (has b j) (sym (has_and a b j) ∙ ap (λ w. has w j) (eqb-true (bit_and a b) a same) ∙ member)).1,
  λ within. eq-eqb (bit_and a b) a (same_word k (bit_and a b) a (omega (arith, and_le_l a b)) small (λ j. has_and a b j ∙ covered (has a j) (has b j) (within j))),
)
  where
    covered : (x y : Bool) → (x ≡ true → y ≡ true) → (x && y) ≡ x
    covered true y within = within refl
    covered false y within = refl

pub has_without : (k w j i : ℕ) → w < 2 ^ k → (has w i && not (false || (eqb i j && ltb i k))) ≡ (has w i && not (eqb i j))
has_without k w j i small = ⊎_elim (λ within. grind (arith, nat_tests)) (λ far. grind (arith, nat_tests, has_beyond k w i small far)) (cases_lt i k)
