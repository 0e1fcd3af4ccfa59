-- The fold of a system is exactly its abstraction.
use Rattle.std.specs.Prelude.{◌≡◌, ℕ, true, false, ◌↔◌, Bool, Decides, List, refl}
use Rattle.std.proofs.Common.{sym, subst}
use Rattle.std.proofs.lemmas.Bool.{cond-true, false_from_ne_true}
use Rattle.std.proofs.lemmas.Bool.Decides.{Decides-at, Decides-and, Decides-like}
use Rattle.systems.specs.Meaning.{Meaning, blank}
use Rattle.systems.specs.Words.{possible, certain, is_on, is_off}
use Rattle.systems.specs.declared.kinds.Light.TheVariants.{On, Off}
use Rattle.folds.specs.Folds.{is_map, some_member, every_member, fold_light, folded, fold_meaning, no_sizes}
use Rattle.folds.specs.Readings.{Member, Abstraction, Exact}
use Rattle.folds.specs.Quantified.{enters_decides, some_decides, every_decides}
use Rattle.folds.specs.Words.{possible_made, certain_possible, on_made, off_made_apart, is_on_decides, is_off_decides}

pub fold_is : (M : Meaning) (cs : List ℕ) (count : ℕ) →
    is_map M cs count ≡ true → fold_meaning M cs count ≡ folded M cs count
fold_is M cs count = cond-true (is_map M cs count) (folded M cs count) (blank no_sizes)

-- two facts that one test decides
same_fact : {P Q : Type 0} (r : Bool) → Decides r P → Decides r Q → P ↔ Q
same_fact r p q = (λ x. q.0 (p.1 x), λ y. p.0 (q.1 y))

module _ (M : Meaning) (cs : List ℕ) (a : ℕ) where
  inhabited : Decides (some_member M cs a (λ s. true)) ((s : ℕ) × Member M cs a s)
  inhabited =
      Decides-like _ (λ f. (f.0, f.1)) (λ f. (f.0, f.1, refl))
      (some_decides M cs a (λ s. true) (λ s. true ≡ true) (λ s. (λ h. h, λ h. h)))

  module _ (l : ℕ) where
    all_on : Decides (every_member M cs a (λ s. is_on (M.light s l)))
        ((s : ℕ) → Member M cs a s → M.light s l ≡ On)
    all_on = every_decides M cs a _ _ (λ s. is_on_decides (M.light s l))

    all_off : Decides (every_member M cs a (λ s. is_off (M.light s l)))
        ((s : ℕ) → Member M cs a s → M.light s l ≡ Off)
    all_off = every_decides M cs a _ _ (λ s. is_off_decides (M.light s l))

    -- members that are all on are not all off
    apart : some_member M cs a (λ s. true) ≡ true → every_member M cs a (λ s. is_on (M.light s l)) ≡ true →
        every_member M cs a (λ s. is_off (M.light s l)) ≡ false
    apart some on =
        let m = inhabited.0 some in
        let lit : M.light m.0 l ≡ On = all_on.0 on m.0 m.1 in
        false_from_ne_true _ (λ off. let dark : M.light m.0 l ≡ Off = all_off.0 off m.0 m.1 in absurd cc)

pub abstraction : (M : Meaning) (cs : List ℕ) (count : ℕ) → Abstraction M cs count (folded M cs count)
abstraction M cs count = record {
  states = refl;
  actions = refl;
  lamps = refl;
  start = refl;
  possible_moves = λ a x b.
      Decides-at _ _ (possible_made _ _) (some_decides M cs a _ _ (λ s. enters_decides M cs possible s x b));
  certain_moves = λ a x b.
      Decides-at _ _ (certain_possible _ _)
      (Decides-and _ _ (λ h. h, λ h. h) (every_decides M cs a _ _ (λ s. enters_decides M cs certain s x b)));
  lamps_on = λ a l.
      same_fact _ (is_on_decides (fold_light M cs a l))
      (Decides-at _ _ (on_made _ _ _) (Decides-and _ _ (inhabited M cs a) (all_on M cs a l)));
  lamps_off = λ a l.
      same_fact _ (is_off_decides (fold_light M cs a l))
      (Decides-at _ _ (off_made_apart _ _ _ (apart M cs a l)) (Decides-and _ _ (inhabited M cs a) (all_off M cs a l)));
}

pub exact : (M : Meaning) (cs : List ℕ) (count : ℕ) → Exact M cs count
exact M cs count e = subst (λ F. Abstraction M cs count F) (sym (fold_is M cs count e)) (abstraction M cs count)
