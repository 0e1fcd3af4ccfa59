-- A formula has at most one pair, and equal pairs of its variables give equal ones.
use Rattle.std.proofs.Common.{ℕ, Bool, true, false, cond}
use Rattle.systems.specs.Meaning.{Meaning, states}
use Rattle.calculus.specs.declared.syntax.Variable.{Variable}
use Rattle.calculus.specs.declared.syntax.Leaf.{Leaf}
use Rattle.calculus.specs.declared.syntax.Leaf.TheVariants.{True, False, Lamp, Var}
use Rattle.calculus.specs.declared.syntax.Prefix.TheVariants.{Not, Diamond, Box, Least, Greatest}
use Rattle.calculus.specs.Formula.{Formula, leaf, prefix, binary, same, at_variable}
use Rattle.calculus.specs.Pairs.{Pair, Same, leaf_pair, not_pair, binary_pair, diamond_pair, box_pair}
use Rattle.calculus.specs.Marks.{Means}
use Rattle.logic.proofs.Pairs.{same_refl, same_sym, same_trans, within_trans, within_from_same, same_from_within, not_same, binary_same, diamond_same, box_same}

abbrev pub SameValues : ℕ → (Variable → Pair) → (Variable → Pair) → Type 0
SameValues n e e' = (x : Variable) → Same n (e x) (e' x)

values_sym : (n : ℕ) (e e' : Variable → Pair) → SameValues n e e' → SameValues n e' e
values_sym n e e' h x = same_sym n (e x) (e' x) (h x)

values_at : (n : ℕ) (e e' : Variable → Pair) (x : Variable) (p q : Pair) → SameValues n e e' → Same n p q → SameValues n (at_variable e x p) (at_variable e' x q)
values_at n e e' x p q h k y = go (same x y)
  where
    go : (b : Bool) → Same n (cond b p (e y)) (cond b q (e' y))
    go true = k
    go false = h y

leaf_same : (n : ℕ) (M : Meaning) (e e' : Variable → Pair) (l : Leaf) → SameValues n e e' → Same n (leaf_pair M e l) (leaf_pair M e' l)
leaf_same n M e e' True h = same_refl n (leaf_pair M e True)
leaf_same n M e e' False h = same_refl n (leaf_pair M e False)
leaf_same n M e e' (Lamp l) h = same_refl n (leaf_pair M e (Lamp l))
leaf_same n M e e' (Var x) h = h x

pub means_same : (M : Meaning) (f : Formula) (e e' : Variable → Pair) (q q' : Pair) → SameValues (states M) e e' → Same (states M) q q' → Means M f e q → Means M f e' q'
means_same M (leaf l) e e' q q' h k m =
    same_trans (states M) q' q (leaf_pair M e' l) (same_sym (states M) q q' k) (same_trans (states M) q (leaf_pair M e l) (leaf_pair M e' l) m (leaf_same (states M) M e e' l h))
means_same M (prefix Not f) e e' q q' h k m =
    (m.0, means_same M f e e' m.0 m.0 h (same_refl (states M) m.0) m.1, same_trans (states M) q' q (not_pair m.0) (same_sym (states M) q q' k) m.2)
means_same M (prefix (Diamond a) f) e e' q q' h k m =
    (m.0, means_same M f e e' m.0 m.0 h (same_refl (states M) m.0) m.1, same_trans (states M) q' q (diamond_pair M a m.0) (same_sym (states M) q q' k) m.2)
means_same M (prefix (Box a) f) e e' q q' h k m =
    (m.0, means_same M f e e' m.0 m.0 h (same_refl (states M) m.0) m.1, same_trans (states M) q' q (box_pair M a m.0) (same_sym (states M) q q' k) m.2)
means_same M (prefix (Least x) f) e e' q q' h k m = (
  means_same M f (at_variable e x q) (at_variable e' x q') q q' (values_at (states M) e e' x q q' h k) k m.0,
  λ r fixed. within_trans (states M) q' q r (within_from_same (states M) q' q (same_sym (states M) q q' k))
      (m.1 r (means_same M f (at_variable e' x r) (at_variable e x r) r r (values_at (states M) e' e x r r (values_sym (states M) e e' h) (same_refl (states M) r)) (same_refl (states M) r) fixed)),
)
means_same M (prefix (Greatest x) f) e e' q q' h k m = (
  means_same M f (at_variable e x q) (at_variable e' x q') q q' (values_at (states M) e e' x q q' h k) k m.0,
  λ r fixed. within_trans (states M) r q q'
      (m.1 r (means_same M f (at_variable e' x r) (at_variable e x r) r r (values_at (states M) e' e x r r (values_sym (states M) e e' h) (same_refl (states M) r)) (same_refl (states M) r) fixed))
      (within_from_same (states M) q q' k),
)
means_same M (binary o f g) e e' q q' h k m =
    (m.0, m.1, means_same M f e e' m.0 m.0 h (same_refl (states M) m.0) m.2, means_same M g e e' m.1 m.1 h (same_refl (states M) m.1) m.3, same_trans (states M) q' q (binary_pair o m.0 m.1) (same_sym (states M) q q' k) m.4)

-- q is p after a sign that is the same on equal pairs, and so is q'
joined : (n : ℕ) (q q' r r' : Pair) → Same n q r → Same n r r' → Same n q' r' → Same n q q'
joined n q q' r r' h k h' = same_trans n q r q' h (same_trans n r r' q' k (same_sym n q' r' h'))

pub unique : (M : Meaning) (f : Formula) (e : Variable → Pair) (q q' : Pair) → Means M f e q → Means M f e q' → Same (states M) q q'
unique M (leaf l) e q q' m m' = joined (states M) q q' (leaf_pair M e l) (leaf_pair M e l) m (same_refl (states M) (leaf_pair M e l)) m'
unique M (prefix Not f) e q q' m m' =
    joined (states M) q q' (not_pair m.0) (not_pair m'.0) m.2 (not_same (states M) m.0 m'.0 (unique M f e m.0 m'.0 m.1 m'.1)) m'.2
unique M (prefix (Diamond a) f) e q q' m m' =
    joined (states M) q q' (diamond_pair M a m.0) (diamond_pair M a m'.0) m.2 (diamond_same (states M) M a m.0 m'.0 (unique M f e m.0 m'.0 m.1 m'.1)) m'.2
unique M (prefix (Box a) f) e q q' m m' =
    joined (states M) q q' (box_pair M a m.0) (box_pair M a m'.0) m.2 (box_same (states M) M a m.0 m'.0 (unique M f e m.0 m'.0 m.1 m'.1)) m'.2
unique M (prefix (Least x) f) e q q' m m' = same_from_within (states M) q q' (m.1 q' m'.0) (m'.1 q m.0)
unique M (prefix (Greatest x) f) e q q' m m' = same_from_within (states M) q q' (m'.1 q m.0) (m.1 q' m'.0)
unique M (binary o f g) e q q' m m' =
    joined (states M) q q' (binary_pair o m.0 m.1) (binary_pair o m'.0 m'.1) m.4
    (binary_same (states M) o m.0 m.1 m'.0 m'.1 (unique M f e m.0 m'.0 m.2 m'.2) (unique M g e m.1 m'.1 m.3 m'.3)) m'.4
