-- What a map of states to classes is.
use Rattle.std.specs.Prelude.{◌≡◌, ℕ, ◌<◌, ◌≤◌, false, Decides, List, nat_le}
use Rattle.std.proofs.Common.{sym, ap, arith}
use Rattle.std.proofs.lemmas.Bool.{leb-true, le-leb, cond-false}
use Rattle.std.proofs.lemmas.Bool.Decides.{Decides-and, Decides-like, Decides-ltb}
use Rattle.sets.specs.Sets.{width}
use Rattle.systems.specs.Meaning.{Meaning, Lawful, states, blank}
use Rattle.folds.specs.Folds.{class_of, is_map, folded, fold_meaning, no_sizes}
use Rattle.folds.specs.Maps.{are_classes}
use Rattle.systems.proofs.Bounded.{all_decides}

pub record Mapping (M : Meaning) (cs : List ℕ) (count : ℕ) : Type 0 where
  pub some : 1 ≤ count
  pub few : count ≤ width
  pub below : (s : ℕ) → s < 256 → class_of cs s < count
  pub inhabited : 1 ≤ states M

le_decides : (a b : ℕ) → Decides (nat_le a b) (a ≤ b)
le_decides a b = (leb-true a b, le-leb a b)

module _ (M : Meaning) (cs : List ℕ) (count : ℕ) where
  pub map_decides : Decides (is_map M cs count) (Mapping M cs count)
  unfolding are_classes
  map_decides =
      let counted = Decides-and _ _ (le_decides 1 count) (le_decides count width) in
      let mapped = Decides-and _ _ counted (all_decides _ _ (λ s. Decides-ltb (class_of cs s) count) 256) in
      Decides-like _ (λ p. record { some = p.0.0.0; few = p.0.0.1; below = p.0.1; inhabited = p.1 })
      (λ m. (((m.some, m.few), m.below), m.inhabited))
      (Decides-and _ _ mapped (le_decides 1 (states M)))

  pub class_below : Lawful M → Mapping M cs count → (s : ℕ) → s < states M → class_of cs s < count
  class_below lawful map s h = map.below s (omega (arith, h, lawful.few_states))

  pub no_fold : is_map M cs count ≡ false → fold_meaning M cs count ≡ blank no_sizes
  no_fold = cond-false (is_map M cs count) (folded M cs count) (blank no_sizes)

  pub unfolded_sizes : is_map M cs count ≡ false → no_sizes ≡ (fold_meaning M cs count).sizes
  unfolded_sizes e = ap (λ F. F.sizes) (sym (no_fold e))
