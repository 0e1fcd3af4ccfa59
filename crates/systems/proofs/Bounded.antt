-- What `any` and `all` say of the numbers below a bound.
use Rattle.std.proofs.Common.{◌≡◌, ℕ, zero, suc, ◌+◌, ◌<◌, Bool, true, false, ◌&&◌, ◌||◌, Decides, sym, refl, ap, ◌∙◌, add-one, arith}
use mathlib.Core.Bool.{and_comm, or_comm}
use Rattle.std.proofs.lemmas.Bool.Decides.{Decides-below_and, Decides-below_or}
use Rattle.systems.specs.Bounded.{any, all}

-- a test of the numbers below n, from what each number's test decides
module _ (p : ℕ → Bool) (P : ℕ → Type 0) (each : (k : ℕ) → Decides (p k) (P k)) where
  pub any_decides : (n : ℕ) → Decides (any n p) ((k : ℕ) × (k < n) × P k)
  any_decides = Decides-below_or p P (λ n. any n p) each refl (λ _. refl)

  pub all_decides : (n : ℕ) → Decides (all n p) ((k : ℕ) → k < n → P k)
  all_decides = Decides-below_and p P (λ n. all n p) each refl (λ _. refl)

-- the same where each number's test is all that is known
module _ (n : ℕ) (p : ℕ → Bool) where
  holds : (k : ℕ) → Decides (p k) (p k ≡ true)
  holds k = (λ e. e, λ e. e)

  pub any_from : (k : ℕ) → k < n → p k ≡ true → any n p ≡ true
  any_from k lt h = (any_decides p (λ k. p k ≡ true) holds n).1 (k, lt, h)

  pub any_to : any n p ≡ true → (k : ℕ) × (k < n) × (p k ≡ true)
  any_to = (any_decides p (λ k. p k ≡ true) holds n).0

  pub all_from : ((k : ℕ) → k < n → p k ≡ true) → all n p ≡ true
  all_from = (all_decides p (λ k. p k ≡ true) holds n).1

  pub all_to : all n p ≡ true → (k : ℕ) → k < n → p k ≡ true
  all_to = (all_decides p (λ k. p k ≡ true) holds n).0

pub any_same : (n : ℕ) (p q : ℕ → Bool) → ((k : ℕ) → k < n → p k ≡ q k) → any n p ≡ any n q
any_same zero p q h = refl
any_same (suc n) p q h =
    let here : p n ≡ q n = h n (omega arith) in
    let below : any n p ≡ any n q = any_same n p q (λ k lt. h k (omega arith)) in
    ap (λ b. b || any n p) here ∙ ap (λ b. q n || b) below

pub all_same : (n : ℕ) (p q : ℕ → Bool) → ((k : ℕ) → k < n → p k ≡ q k) → all n p ≡ all n q
all_same zero p q h = refl
all_same (suc n) p q h =
    let here : p n ≡ q n = h n (omega arith) in
    let below : all n p ≡ all n q = all_same n p q (λ k lt. h k (omega arith)) in
    ap (λ b. b && all n p) here ∙ ap (λ b. q n && b) below

-- one more number, as a loop's turn tests it
pub any_next : (n : ℕ) (p : ℕ → Bool) → any (n + 1) p ≡ (any n p || p n)
any_next n p = ap (λ m. any m p) (add-one n) ∙ or_comm (p n) (any n p)

pub all_next : (n : ℕ) (p : ℕ → Bool) → all (n + 1) p ≡ (all n p && p n)
all_next n p = ap (λ m. all m p) (add-one n) ∙ and_comm (p n) (all n p)
