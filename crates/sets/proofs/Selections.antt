-- What a selection holds, where the test computes.
use Rattle.std.proofs.Common.{◌≡◌, ℕ, ◌<◌, ◌≤◌, Bool, ◌&&◌, nat_lt, sym, ap, inl, inr, ◌∙◌, arith}
use Rattle.std.proofs.lemmas.Bool.{cases_lt, lt-ltb, le-ltb, false_from_ne_true}
use Rattle.sets.specs.Sets.{Set, has, width, Selected}

selected_below : (n : ℕ) (passes : ℕ → Bool → Type 0) (w : Set) (g : ℕ → Bool) (i : ℕ) → n ≤ width → i < n → ((b : Bool) → passes i b → b ≡ g i) → Selected n passes w → has w i ≡ (nat_lt i n && g i)
selected_below n passes w g i few lt computes s =
    computes (has w i) (s.passed i lt (omega arith)) ∙ sym (ap (λ b. b && g i) (lt-ltb i n lt))

selected_beyond : (n : ℕ) (passes : ℕ → Bool → Type 0) (w : Set) (g : ℕ → Bool) (i : ℕ) → n ≤ i → Selected n passes w → has w i ≡ (nat_lt i n && g i)
selected_beyond n passes w g i le s =
    false_from_ne_true (has w i) (λ h. let b = (s.below i h).0 in absurd (omega (arith, b))) ∙ sym (ap (λ b. b && g i) (le-ltb i n le))

-- where the test answers as g does, the set holds just the numbers below n that g passes
pub selected : (n : ℕ) (passes : ℕ → Bool → Type 0) (w : Set) (g : ℕ → Bool) → n ≤ width → ((i : ℕ) (b : Bool) → i < n → passes i b → b ≡ g i) → Selected n passes w → (i : ℕ) → has w i ≡ (nat_lt i n && g i)
selected n passes w g few computes s i =
    elim (cases_lt i n) [
      | inl lt ↦ selected_below n passes w g i few lt (λ b. computes i b lt) s
      | inr le ↦ selected_beyond n passes w g i le s
    ]
