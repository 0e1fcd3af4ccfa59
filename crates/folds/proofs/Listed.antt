-- The classes of all states, one after the other.
use Rattle.std.proofs.Common.{◌≡◌, ℕ, zero, suc, ◌≤◌, Bool, ◌&&◌, nat_le, nat_lt, List, length, get_or, take, refl, sym, ap, ◌∙◌, add-one, arith}
use mathlib.Core.Bool.{and_comm}
use Rattle.std.specs.List.{list_all}
use Rattle.std.proofs.lemmas.List.{take_all}
use Rattle.std.proofs.lemmas.List.Folds.{list_all_more}
use Rattle.sets.specs.Sets.{width}
use Rattle.systems.specs.Bounded.{all}
use Rattle.folds.specs.Maps.{are_classes}

listed : (p : ℕ → Bool) (xs : List ℕ) (n : ℕ) → n ≤ length xs →
    all n (λ k. p (get_or xs k 0)) ≡ list_all p (take n xs)
listed p xs zero h = refl
listed p xs (suc n) h =
    let here : Bool = p (get_or xs n 0) in
    ap (λ b. here && b) (listed p xs n (omega arith)) ∙ and_comm here (list_all p (take n xs))
    ∙ sym (list_all_more p xs n 0 (omega arith)) ∙ ap (λ m. list_all p (take m xs)) (add-one n)

pub are_classes_listed : (cs : List ℕ) (count : ℕ) → length cs ≡ 256 →
    are_classes cs count ≡ (nat_le 1 count && nat_le count width && list_all (λ class. nat_lt class count) cs)
unfolding are_classes
are_classes_listed cs count h =
    let below : ℕ → Bool = λ class. nat_lt class count in
    ap (λ b. nat_le 1 count && nat_le count width && b)
    (listed below cs 256 (omega arith) ∙ ap (list_all below) (take_all 256 cs (omega arith)))
