-- Relations between the pairs of two systems that every sign keeps hold of the pairs of every
-- formula. Monotonicity, preservation, consistency and definiteness are each such a relation.
use Rattle.std.proofs.Common.{◌≡◌, ℕ, zero, suc, ◌<◌, Bool, true, false, cond, ltb, refl}
use Rattle.std.proofs.lemmas.Bool.{and_parts, ltb-true, both_ways}
use Rattle.systems.specs.Meaning.{Meaning}
use Rattle.calculus.specs.declared.syntax.Variable.{Variable}
use Rattle.calculus.specs.declared.syntax.Leaf.TheVariants.{True, False, Lamp, Var}
use Rattle.calculus.specs.declared.syntax.Prefix.TheVariants.{Not, Diamond, Box, Least, Greatest}
use Rattle.calculus.specs.declared.syntax.Binary.{Binary}
use Rattle.calculus.specs.Formula.{Formula, leaf, prefix, binary, same, at_variable, negated, is_even, closed_under, closed, within_letters}
use Rattle.calculus.specs.declared.syntax.Standing.{Standing}
use Rattle.calculus.specs.declared.syntax.Standing.TheVariants.{Free, Even, Odd}
use Rattle.calculus.specs.Pairs.{Pair, leaf_pair, not_pair, binary_pair, diamond_pair, box_pair}
use Rattle.calculus.specs.Marks.{nothing}
use Rattle.logic.proofs.Denotation.{iterate, none, every, pair_at}

-- The signs other than negation keep K, for actions below k and lamps below n.
pub record Signs (k n : ℕ) (A C : Meaning) (K : Pair → Pair → Type 0) : Type 0 where
  pub none_kept : K none none
  pub every_kept : K every every
  pub lamp_kept : (l : ℕ) → l < n → K (leaf_pair A nothing (Lamp l)) (leaf_pair C nothing (Lamp l))
  pub diamond_kept : (x : ℕ) → x < k → (p q : Pair) → K p q → K (diamond_pair A x p) (diamond_pair C x q)
  pub box_kept : (x : ℕ) → x < k → (p q : Pair) → K p q → K (box_pair A x p) (box_pair C x q)
  pub binary_kept : (o : Binary) (p p' q q' : Pair) → K p q → K p' q' → K (binary_pair o p p') (binary_pair o q q')

-- Two relations that every sign keeps, where negation leads from each to the other.
pub record Linked (k n : ℕ) (A C : Meaning) (K K' : Pair → Pair → Type 0) : Type 0 where
  pub direct : Signs k n A C K
  pub turned : Signs k n A C K'
  pub not_direct : (p q : Pair) → K' p q → K (not_pair p) (not_pair q)
  pub not_turned : (p q : Pair) → K p q → K' (not_pair p) (not_pair q)

-- the same with the two relations in each other's place
pub converse : {k n : ℕ} {A C : Meaning} {K K' : Pair → Pair → Type 0} → Linked k n A C K K' → Linked k n A C K' K
converse kept = record { direct = kept.turned; turned = kept.direct; not_direct = kept.not_turned; not_turned = kept.not_direct }

-- a variable's two values are related as it stands: by P with an even number of negations, by Q with an odd one
abbrev pub As : Standing → Type 0 → Type 0 → Type 0
As Free P Q = Unit {0}
As Even P Q = P
As Odd P Q = Q

abbrev pub Related : (Pair → Pair → Type 0) → (Pair → Pair → Type 0) → (Variable → Standing) → (Variable → Pair) → (Variable → Pair) → Type 0
Related K K' st e e' = (x : Variable) → As (st x) (K (e x) (e' x)) (K' (e x) (e' x))

as_negated : (P Q : Type 0) (s : Standing) → As s P Q → As (negated s) Q P
as_negated P Q Free h = h
as_negated P Q Even h = h
as_negated P Q Odd h = h

as_even : (P Q : Type 0) (s : Standing) → is_even s ≡ true → As s P Q → P
as_even P Q Free e h = absurd (both_ways false refl e)
as_even P Q Even e h = h
as_even P Q Odd e h = absurd (both_ways false refl e)

pub as_both : (P Q : Type 0) (s : Standing) → P → Q → As s P Q
as_both P Q Free p q = tt
as_both P Q Even p q = p
as_both P Q Odd p q = q

pub as_mapped : (P P' Q Q' : Type 0) (s : Standing) → (P → P') → (Q → Q') → As s P Q → As s P' Q'
as_mapped P P' Q Q' Free f g h = h
as_mapped P P' Q Q' Even f g h = f h
as_mapped P P' Q Q' Odd f g h = g h

pub related_at : (K K' : Pair → Pair → Type 0) (st : Variable → Standing) (e e' : Variable → Pair) (x : Variable) (p q : Pair) → Related K K' st e e' → K p q → Related K K' (at_variable st x Even) (at_variable e x p) (at_variable e' x q)
related_at K K' st e e' x p q rel h y = go (same x y)
  where
    go : (b : Bool) → As (cond b Even (st y)) (K (cond b p (e y)) (cond b q (e' y))) (K' (cond b p (e y)) (cond b q (e' y)))
    go true = h
    go false = rel y

pub iterate_kept : (K : Pair → Pair → Type 0) (F G : Pair → Pair) → ((p q : Pair) → K p q → K (F p) (G q)) → (p q : Pair) → K p q → (n : ℕ) → K (iterate n F p) (iterate n G q)
iterate_kept K F G step p q h zero = h
iterate_kept K F G step p q h (suc n) = step (iterate n F p) (iterate n G q) (iterate_kept K F G step p q h n)

-- The pairs of a formula are related where those of its variables are.
pub formula_kept : (n k l : ℕ) (A C : Meaning) (f : Formula) (K K' : Pair → Pair → Type 0) → Linked k l A C K K' → (st : Variable → Standing) → closed_under st f ≡ true → within_letters k l f ≡ true → (e e' : Variable → Pair) → Related K K' st e e' → K (pair_at n A f e) (pair_at n C f e')
formula_kept n k l A C (leaf True) K K' kept st cl wl e e' rel = kept.direct.every_kept
formula_kept n k l A C (leaf False) K K' kept st cl wl e e' rel = kept.direct.none_kept
formula_kept n k l A C (leaf (Lamp i)) K K' kept st cl wl e e' rel = kept.direct.lamp_kept i (ltb-true i l wl)
formula_kept n k l A C (leaf (Var x)) K K' kept st cl wl e e' rel = as_even (K (e x) (e' x)) (K' (e x) (e' x)) (st x) cl (rel x)
formula_kept n k l A C (prefix Not f) K K' kept st cl wl e e' rel =
    kept.not_direct _ _ (formula_kept n k l A C f K' K (converse kept) (λ x. negated (st x)) cl wl e e' (λ x. as_negated (K (e x) (e' x)) (K' (e x) (e' x)) (st x) (rel x)))
formula_kept n k l A C (prefix (Diamond a) f) K K' kept st cl wl e e' rel =
    let parts = and_parts (ltb a k) (within_letters k l f) wl in
    kept.direct.diamond_kept a (ltb-true a k parts.0) _ _ (formula_kept n k l A C f K K' kept st cl parts.1 e e' rel)
formula_kept n k l A C (prefix (Box a) f) K K' kept st cl wl e e' rel =
    let parts = and_parts (ltb a k) (within_letters k l f) wl in
    kept.direct.box_kept a (ltb-true a k parts.0) _ _ (formula_kept n k l A C f K K' kept st cl parts.1 e e' rel)
formula_kept n k l A C (prefix (Least x) f) K K' kept st cl wl e e' rel =
    iterate_kept K (λ p. pair_at n A f (at_variable e x p)) (λ p. pair_at n C f (at_variable e' x p))
    (λ p q h. formula_kept n k l A C f K K' kept (at_variable st x Even) cl wl (at_variable e x p) (at_variable e' x q) (related_at K K' st e e' x p q rel h))
    none none kept.direct.none_kept n
formula_kept n k l A C (prefix (Greatest x) f) K K' kept st cl wl e e' rel =
    iterate_kept K (λ p. pair_at n A f (at_variable e x p)) (λ p. pair_at n C f (at_variable e' x p))
    (λ p q h. formula_kept n k l A C f K K' kept (at_variable st x Even) cl wl (at_variable e x p) (at_variable e' x q) (related_at K K' st e e' x p q rel h))
    every every kept.direct.every_kept n
formula_kept n k l A C (binary o f g) K K' kept st cl wl e e' rel =
    let closeds = and_parts (closed_under st f) (closed_under st g) cl in
    let letters = and_parts (within_letters k l f) (within_letters k l g) wl in
    kept.direct.binary_kept o _ _ _ _ (formula_kept n k l A C f K K' kept st closeds.0 letters.0 e e' rel) (formula_kept n k l A C g K K' kept st closeds.1 letters.1 e e' rel)

-- In a closed formula no variable is read from outside.
pub closed_kept : (n k l : ℕ) (A C : Meaning) (f : Formula) (K K' : Pair → Pair → Type 0) → Linked k l A C K K' → closed f ≡ true → within_letters k l f ≡ true → K (pair_at n A f nothing) (pair_at n C f nothing)
closed_kept n k l A C f K K' kept cl wl = formula_kept n k l A C f K K' kept (λ x. Free) cl wl nothing nothing (λ x. tt)
