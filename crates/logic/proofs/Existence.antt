-- The computed pair is the formula's pair, where fixed points are iterated at least twice for each
-- state.
use Rattle.std.proofs.Common.{◌≡◌, ℕ, ◌*◌, ◌≤◌, true, ltb, arith}
use Rattle.std.proofs.lemmas.Bool.{and_parts}
use Rattle.systems.specs.Meaning.{Meaning, states}
use Rattle.calculus.specs.declared.syntax.Variable.{Variable}
use Rattle.calculus.specs.declared.syntax.Prefix.TheVariants.{Not, Diamond, Box, Least, Greatest}
use Rattle.calculus.specs.Formula.{Formula, leaf, prefix, binary, at_variable, negated, closed_under, within_letters}
use Rattle.calculus.specs.declared.syntax.Standing.{Standing}
use Rattle.calculus.specs.declared.syntax.Standing.TheVariants.{Even}
use Rattle.calculus.specs.Pairs.{Pair, Same, Within, leaf_pair, not_pair, binary_pair, diamond_pair, box_pair}
use Rattle.calculus.specs.Marks.{Means}
use Rattle.logic.proofs.Denotation.{pair_at}
use Rattle.logic.proofs.Fixed.{rising, falling, at_rest, stays_before}
use Rattle.logic.proofs.Monotone.{Ordered, monotone, body, body_monotone}
use Rattle.logic.proofs.Pairs.{same_refl, same_sym, within_trans, within_from_same}
use Rattle.logic.proofs.Unique.{means_same, unique}

pub computed : (n k l : ℕ) (M : Meaning) → states M * 2 ≤ n → (f : Formula) (st : Variable → Standing) → closed_under st f ≡ true → within_letters k l f ≡ true → (e : Variable → Pair) → Means M f e (pair_at n M f e)
computed n k l M far (leaf i) st cl wl e = same_refl (states M) (leaf_pair M e i)
computed n k l M far (prefix Not f) st cl wl e = (pair_at n M f e, computed n k l M far f (λ x. negated (st x)) cl wl e, same_refl (states M) (not_pair (pair_at n M f e)))
computed n k l M far (prefix (Diamond a) f) st cl wl e =
    let letters = and_parts (ltb a k) (within_letters k l f) wl in
    (pair_at n M f e, computed n k l M far f st cl letters.1 e, same_refl (states M) (diamond_pair M a (pair_at n M f e)))
computed n k l M far (prefix (Box a) f) st cl wl e =
    let letters = and_parts (ltb a k) (within_letters k l f) wl in
    (pair_at n M f e, computed n k l M far f st cl letters.1 e, same_refl (states M) (box_pair M a (pair_at n M f e)))
computed n k l M far (prefix (Least x) f) st cl wl e =
    let q = pair_at n M (prefix (Least x) f) e in
    let F = body n M f e x in
    let mono = body_monotone n k l M f st e x cl wl in (
      means_same M f (at_variable e x q) (at_variable e x q) (F q) q (λ y. same_refl (states M) (at_variable e x q y)) (same_sym (states M) q (F q) (at_rest rising (states M) F mono n far)) (computed n k l M far f (at_variable st x Even) cl wl (at_variable e x q)),
      λ r fixed. stays_before rising (states M) F mono r (within_from_same (states M) (F r) r (unique M f (at_variable e x r) (F r) r (computed n k l M far f (at_variable st x Even) cl wl (at_variable e x r)) fixed)) n,
    )
computed n k l M far (prefix (Greatest x) f) st cl wl e =
    let q = pair_at n M (prefix (Greatest x) f) e in
    let F = body n M f e x in
    let mono = body_monotone n k l M f st e x cl wl in (
      means_same M f (at_variable e x q) (at_variable e x q) (F q) q (λ y. same_refl (states M) (at_variable e x q y)) (same_sym (states M) q (F q) (at_rest falling (states M) F mono n far)) (computed n k l M far f (at_variable st x Even) cl wl (at_variable e x q)),
      λ r fixed. stays_before falling (states M) F mono r (within_from_same (states M) r (F r) (unique M f (at_variable e x r) r (F r) fixed (computed n k l M far f (at_variable st x Even) cl wl (at_variable e x r)))) n,
    )
computed n k l M far (binary o f g) st cl wl e =
    let closeds = and_parts (closed_under st f) (closed_under st g) cl in
    let letters = and_parts (within_letters k l f) (within_letters k l g) wl in
    (pair_at n M f e, pair_at n M g e, computed n k l M far f st closeds.0 letters.0 e, computed n k l M far g st closeds.1 letters.1 e, same_refl (states M) (binary_pair o (pair_at n M f e) (pair_at n M g e)))

-- What is proved of computed pairs holds of every pair that a formula has.
module _ (k l : ℕ) (M : Meaning) (f : Formula) (st : Variable → Standing) (cl : closed_under st f ≡ true) (wl : within_letters k l f ≡ true) where
  pub same_as_computed : (n : ℕ) → states M * 2 ≤ n → (e : Variable → Pair) (p : Pair) → Means M f e p → Same (states M) p (pair_at n M f e)
  same_as_computed n far e p m = unique M f e p (pair_at n M f e) m (computed n k l M far f st cl wl e)

  pub means_monotone : (e e' : Variable → Pair) → Ordered (states M) st e e' → (p q : Pair) → Means M f e p → Means M f e' q → Within (states M) p q
  means_monotone e e' rel p q m m' =
      let n = states M * 2 in
      let is = same_as_computed n (omega arith) e p m in
      let is' = same_as_computed n (omega arith) e' q m' in
      within_trans (states M) p (pair_at n M f e) q (within_from_same (states M) p (pair_at n M f e) is)
      (within_trans (states M) (pair_at n M f e) (pair_at n M f e') q (monotone n k l M f st cl wl e e' rel) (within_from_same (states M) (pair_at n M f e') q (same_sym (states M) q (pair_at n M f e') is')))
