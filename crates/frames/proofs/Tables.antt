-- Reads of an array by what its entries have in common.
use Rattle.std.proofs.Common.{◌≡◌, ℕ, zero, suc, ◌+◌, ◌<◌, ◌≤◌, ◌≢◌, List, length, get_or, set, replicate, subst, sym, ◌∙◌, ⊎_elim, arith, length-set, get_or-set_other, get_or-set_same, below_more}
use Rattle.std.proofs.lemmas.Bool.{cases_eq, cases_lt}
use Rattle.std.proofs.lemmas.List.{get_or_past}
use Rattle.std.specs.Array.{IsFromFnResult, IsFromFnResultFrom}
use Rattle.std.specs.Fn.{Called}
use denote.Param.Members.{Mut}

-- what holds of a value and of the default holds of each place of the value's copies
pub read_copies : {X : Type 0} (P : X → Type 0) (v d : X) (n i : ℕ) → P v → P d → P (get_or (replicate n v) i d)
read_copies P v d zero i at-v at-d = at-d
read_copies P v d (suc n) zero at-v at-d = at-v
read_copies P v d (suc n) (suc i) at-v at-d = read_copies P v d n i at-v at-d

made_from : {F B : Type 0} (g : Mut F (ℕ × Unit {0}) B) (P : ℕ → B → Type 0) (f : F) → ((i : ℕ) (y : B) (q : F) → Called g f (i, tt) y q → P i y × (q ≡ f))
    → (ys : List B) (d : B) (i n k : ℕ) → IsFromFnResultFrom g f ys i n → i ≤ k → k < i + n → P k (get_or ys k d)
made_from g P f step ys d i zero k run le lt = absurd (omega arith)
made_from {F} g P f step ys d i (suc n) k run le lt =
    let told : P i run.1 × (run.0 ≡ f) = step i run.1 run.0 run.3 in
    ⊎_elim
    (λ same. subst (λ j. P j (get_or ys j d)) (sym same) (subst (P i) (sym (run.2.1 d)) told.0))
    (λ other. made_from g P f step ys d (i + 1) n k (subst (λ (q : F). IsFromFnResultFrom g q ys (i + 1) n) told.1 run.4) (omega arith) (omega arith))
    (cases_eq k i)

-- entries that a closure made, which stays as it was: where each call gives what has P, and the default has P
-- beyond them, so has what is read at any index
pub made : {F B : Type 0} {g : Mut F (ℕ × Unit {0}) B} {f : F} {ys : List B} {n : ℕ} → IsFromFnResult g f ys n → (P : ℕ → B → Type 0) (d : B)
    → ((i : ℕ) (y : B) (q : F) → Called g f (i, tt) y q → P i y × (q ≡ f)) → ((k : ℕ) → n ≤ k → P k d) → (k : ℕ) → P k (get_or ys k d)
made {F} {B} {g} {f} {ys} {n} all P d step beyond k =
    ⊎_elim
    (λ lt. made_from g P f step ys d 0 n k all.each (omega arith) (omega arith))
    (λ le. subst (P k) (sym (get_or_past ys k d (omega (arith, all.long)))) (beyond k le))
    (cases_lt k n)

-- a list that is written one entry after another: those below i have P, and the others are as they were
pub record Filled {X : Type 0} (P : ℕ → X → Type 0) (d : X) (old xs : List X) (i : ℕ) : Type 0 where
  pub long : length xs ≡ length old
  pub done : (k : ℕ) → k < i → P k (get_or xs k d)
  pub rest : (k : ℕ) → i ≤ k → get_or xs k d ≡ get_or old k d

module _ {X : Type 0} {P : ℕ → X → Type 0} {d : X} {old xs : List X} {i : ℕ} (f : Filled P d old xs i) where
  pub written : (v : X) → i < length old → P i v → Filled P d old (set xs i v) (i + 1)
  written v lt here =
      let within : i < length xs = omega (arith, f.long) in
      record {
        long = length-set xs i v ∙ f.long;
        done = below_more (λ k. P k (get_or (set xs i v) k d)) i
            (λ k h. let ne : k ≢ i = omega arith in rw get_or-set_other (f.done k h)) (rw get_or-set_same here);
        rest = λ k h. let ne : k ≢ i = omega arith in rw get_or-set_other (f.rest k (omega arith));
      }

  -- where the others have P too, all have
  pub all_filled : ((k : ℕ) → i ≤ k → P k (get_or old k d)) → (k : ℕ) → P k (get_or xs k d)
  all_filled others k =
      ⊎_elim (λ lt. f.done k lt) (λ le. subst (P k) (sym (f.rest k le)) (others k le)) (cases_lt k i)
