-- Texts that add places to what is made, one after another.
use Rattle.std.proofs.Common.{◌≡◌, ℕ, zero, suc, ◌<◌, Bool, true, false, ◌&&◌, ◌||◌, eqb, ltb, List, refl, ap, arith}
use Rattle.std.proofs.lemmas.Bool.Decides.{nat_tests}
use Rattle.systems.specs.Making.{Making}
use Rattle.listings.specs.Texts.{over}
use Rattle.listings.specs.declared.part.Stage.{Stage}
use Rattle.listings.proofs.BackLines.{Leads, leads_none, leads_as, leads_both}

-- The text adds the places of `all` to those that are made, where none of them is among these.
pub record Covers {A : Type 0} (st : Stage) (made : (A → Bool) → Making) (t : List ℕ) (all : A → Bool) : Type 0 where
  pub leads : (p : A → Bool) → ((x : A) → (p x && all x) ≡ false) → Leads st (made p) t st (made (λ x. p x || all x))

-- a test c of whether a number k is n, or below n, where c holds of none if it is not
module _ (c : Bool → Bool) (never : c false ≡ false) (p : Bool) (k n : ℕ) where
  none : p ≡ (p || c (ltb k 0))
  none = grind (arith, nat_tests)

  joined : ((p || c (ltb k n)) || c (eqb k n)) ≡ (p || c (ltb k (suc n)))
  joined = grind (arith, nat_tests)

  apart_before : (p && c (ltb k (suc n))) ≡ false → (p && c (ltb k n)) ≡ false
  apart_before apart = grind (arith, nat_tests)

  apart_here : (p && c (ltb k (suc n))) ≡ false → ((p || c (ltb k n)) && c (eqb k n)) ≡ false
  apart_here apart = grind (arith, nat_tests)

-- a place that a text adds is not yet among those that are made
new : (p here : Bool) → here ≡ true → (p && here) ≡ false → p ≡ false
new p here is apart = grind (arith, nat_tests)

module _ {A : Type 0} {st : Stage} {made : (A → Bool) → Making} where
  -- the text of one place
  pub covers_one : {t : List ℕ} {that : A → Bool} (x : A) → that x ≡ true → ((p : A → Bool) → p x ≡ false → Leads st (made p) t st (made (λ y. p y || that y))) → Covers st made t that
  covers_one {t} {that} x is lead = record { leads = λ p apart. lead p (new (p x) (that x) is (apart x)) }

  -- one text after another, where the text of each i adds the places whose number is i
  pub covers_over : (number : A → ℕ) (c : A → Bool → Bool) → ((x : A) → c x false ≡ false) → (f : ℕ → List ℕ) (n : ℕ) → ((i : ℕ) → i < n → Covers st made (f i) (λ x. c x (eqb (number x) i))) → Covers st made (over n f) (λ x. c x (ltb (number x) n))
  covers_over number c never f zero each = record {
    leads = λ p apart. leads_none (ap made (λ i x. none (c x) (never x) (p x) (number x) 0 i));
  }
  covers_over number c never f (suc n) each = record {
    leads = λ p apart.
        let before = covers_over number c never f n (λ i in_n. each i (omega arith)) in
        let here = each n (omega arith) in
        leads_as refl (ap made (λ i x. joined (c x) (never x) (p x) (number x) n i))
        (leads_both
        (before.leads p (λ x. apart_before (c x) (never x) (p x) (number x) n (apart x)))
        (here.leads (λ x. p x || c x (ltb (number x) n)) (λ x. apart_here (c x) (never x) (p x) (number x) n (apart x))));
  }
