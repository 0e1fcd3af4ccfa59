-- A formula's pair grows with those of its variables that stand under an even number of negations,
-- and shrinks with the others.
use Rattle.std.proofs.Common.{◌≡◌, ℕ, ◌<◌, true, sym, refl, subst}
use Rattle.systems.specs.Meaning.{Meaning, states}
use Rattle.calculus.specs.declared.syntax.Variable.{Variable}
use Rattle.calculus.specs.Formula.{Formula, at_variable, closed_under, within_letters}
use Rattle.calculus.specs.declared.syntax.Standing.{Standing}
use Rattle.calculus.specs.declared.syntax.Standing.TheVariants.{Even}
use Rattle.calculus.specs.Pairs.{Pair, Within}
use Rattle.logic.proofs.Denotation.{pair_at}
use Rattle.logic.proofs.Fixed.{Monotone}
use Rattle.logic.proofs.Links.{Related, related_at, as_both, as_mapped, formula_kept}
use Rattle.logic.proofs.Pairs.{within_refl}
use Rattle.logic.proofs.Sides.{Side, needed, allowed, other, taken, lit, flipped, Link, Carried, linked}

-- each state below n with itself
abbrev pub Itself : ℕ → ℕ → ℕ → Type 0
Itself n s t = (s ≡ t) × (s < n)

-- Within one system a side is linked to another where at each state its lamps and moves are among the other's.
pub itself_linked : (k l : ℕ) (M : Meaning) (g h : Side)
    → ((s i : ℕ) → s < states M → i < l → lit g (M.light s i) ≡ true → lit h (M.light s i) ≡ true)
    → ((s i : ℕ) → s < states M → i < l → lit (other h) (M.light s i) ≡ true → lit (other g) (M.light s i) ≡ true)
    → ((s x t : ℕ) → s < states M → x < k → t < states M → taken g (M.kind s x t) ≡ true → taken h (M.kind s x t) ≡ true)
    → ((s x t : ℕ) → s < states M → x < k → t < states M → taken (other h) (M.kind s x t) ≡ true → taken (other g) (M.kind s x t) ≡ true)
    → Link k l M M g h (Itself (states M))
itself_linked k l M g h lamps lamps' moves moves' = record {
  lamps_ahead = λ s t i r lt e. subst (λ u. lit h (M.light u i) ≡ true) r.0 (lamps s i r.1 lt e);
  lamps_back = λ s t i r lt e. lamps' s i r.1 lt (subst (λ u. lit (other h) (M.light u i) ≡ true) (sym r.0) e);
  moves_ahead = λ s t x u r lt within e. (u, within, subst (λ v. taken h (M.kind v x u) ≡ true) r.0 (moves s x u r.1 lt within e), (refl, within));
  moves_back = λ s t x u r lt within e. (u, within, moves' s x u r.1 lt within (subst (λ v. taken (other h) (M.kind v x u) ≡ true) (sym r.0) e), (refl, within));
}

carried_from_within : (g : Side) (n : ℕ) (R : ℕ → ℕ → Type 0) → ((s t : ℕ) → R s t → (s ≡ t) × (s < n)) → (p q : Pair) → Within n p q → Carried g g R p q
carried_from_within needed n R itself p q h = λ s t r e. subst (λ u. q.necessary u ≡ true) (itself s t r).0 ((h s (itself s t r).1).0 e)
carried_from_within allowed n R itself p q h = λ s t r e. subst (λ u. q.possibly u ≡ true) (itself s t r).0 ((h s (itself s t r).1).1 e)

-- the variables' pairs, as their standings have it, grow from e to e'
abbrev pub Ordered : ℕ → (Variable → Standing) → (Variable → Pair) → (Variable → Pair) → Type 0
Ordered n = Related (Within n) (λ p q. Within n q p)

module _ (n k l : ℕ) (M : Meaning) (f : Formula) (st : Variable → Standing) (cl : closed_under st f ≡ true) (wl : within_letters k l f ≡ true) where
  side_monotone : (g : Side) (e e' : Variable → Pair) → Ordered (states M) st e e' → Carried g g (Itself (states M)) (pair_at n M f e) (pair_at n M f e')
  side_monotone g e e' rel =
      formula_kept n k l M M f (Carried g g (Itself (states M))) (λ p q. Carried (other g) (other g) (flipped (Itself (states M))) q p)
      (linked (itself_linked k l M g g (λ s i within lt h. h) (λ s i within lt h. h) (λ s x t within lt within' h. h) (λ s x t within lt within' h. h))) st cl wl e e'
      (λ x. as_mapped (Within (states M) (e x) (e' x)) _ (Within (states M) (e' x) (e x)) _ (st x)
      (carried_from_within g (states M) (Itself (states M)) (λ s t r. r) (e x) (e' x))
      (carried_from_within (other g) (states M) (flipped (Itself (states M))) (λ t s r. (sym r.0, subst (λ u. u < states M) r.0 r.1)) (e' x) (e x)) (rel x))

  pub monotone : (e e' : Variable → Pair) → Ordered (states M) st e e' → Within (states M) (pair_at n M f e) (pair_at n M f e')
  monotone e e' rel s lt = (side_monotone needed e e' rel s s (refl, lt), side_monotone allowed e e' rel s s (refl, lt))

-- what a binder's body does to the pair of its variable
abbrev pub body : ℕ → Meaning → Formula → (Variable → Pair) → Variable → Pair → Pair
body n M f e x p = pair_at n M f (at_variable e x p)

pub ordered_at : (n : ℕ) (st : Variable → Standing) (e : Variable → Pair) (x : Variable) (p q : Pair) → Within n p q → Ordered n (at_variable st x Even) (at_variable e x p) (at_variable e x q)
ordered_at n st e x p q = related_at (Within n) (λ p q. Within n q p) st e e x p q (λ y. as_both (Within n (e y) (e y)) (Within n (e y) (e y)) (st y) (within_refl n (e y)) (within_refl n (e y)))

pub body_monotone : (n k l : ℕ) (M : Meaning) (f : Formula) (st : Variable → Standing) (e : Variable → Pair) (x : Variable) → closed_under (at_variable st x Even) f ≡ true → within_letters k l f ≡ true → Monotone (states M) (body n M f e x)
body_monotone n k l M f st e x cl wl p q h = monotone n k l M f (at_variable st x Even) cl wl (at_variable e x p) (at_variable e x q) (ordered_at (states M) st e x p q h)
