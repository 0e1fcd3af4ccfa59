-- Closed formulas over a system's letters: each has one pair, and links carry its sides.
use Rattle.std.proofs.Common.{◌≡◌, ℕ, ◌*◌, ◌≤◌, true, sym, subst, arith}
use Rattle.systems.specs.Meaning.{Meaning, states, actions, lamps}
use Rattle.systems.specs.Refinement.{Alike}
use Rattle.calculus.specs.Formula.{Formula, within_letters}
use Rattle.calculus.specs.declared.syntax.Standing.TheVariants.{Free}
use Rattle.calculus.specs.Pairs.{Pair, Same}
use Rattle.calculus.specs.Marks.{Means, nothing}
use Rattle.logic.specs.Theorems.{Question, OnePair}
use Rattle.logic.proofs.Denotation.{pair_at}
use Rattle.logic.proofs.Existence.{computed, same_as_computed}
use Rattle.logic.proofs.Links.{closed_kept, converse}
use Rattle.logic.proofs.Sides.{Side, other, flipped, Link, Carried, linked}
use Rattle.logic.proofs.Unique.{unique}

module _ (n : ℕ) (M : Meaning) (far : states M * 2 ≤ n) (f : Formula) (q : Question M f) where
  pub question_computed : Means M f nothing (pair_at n M f nothing)
  question_computed = computed n (actions M) (lamps M) M far f (λ x. Free) q.bound q.lettered nothing

  pub question_same : (p : Pair) → Means M f nothing p → Same (states M) p (pair_at n M f nothing)
  question_same = same_as_computed (actions M) (lamps M) M f (λ x. Free) q.bound q.lettered n far nothing

pub one_pair : OnePair
one_pair M f q =
    let m = question_computed (states M * 2) M (omega arith) f q in
    (pair_at (states M * 2) M f nothing, m, λ p m'. unique M f nothing (pair_at (states M * 2) M f nothing) p m m')

-- a formula over the letters of one of two systems that speak of the same ones
pub question_of : (C A : Meaning) → Alike C A → (f : Formula) → Question A f → Question C f
question_of C A alike f q = record {
  bound = q.bound;
  lettered = subst (λ k. within_letters k (lamps C) f ≡ true) (sym alike.same_actions) (subst (λ n. within_letters (actions A) n f ≡ true) (sym alike.same_lamps) q.lettered);
}

-- a link carries the sides of a closed formula's computed pairs
pub question_carried : (n : ℕ) (A C : Meaning) (f : Formula) → Question A f → (g h : Side) (R : ℕ → ℕ → Type 0) → Link (actions A) (lamps A) A C g h R → Carried g h R (pair_at n A f nothing) (pair_at n C f nothing)
question_carried n A C f q g h R link = closed_kept n (actions A) (lamps A) A C f (Carried g h R) (λ p r. Carried (other h) (other g) (flipped R) r p) (linked link) q.bound q.lettered

pub question_carried_back : (n : ℕ) (A C : Meaning) (f : Formula) → Question A f → (g h : Side) (R : ℕ → ℕ → Type 0) → Link (actions A) (lamps A) A C g h R → Carried (other h) (other g) (flipped R) (pair_at n C f nothing) (pair_at n A f nothing)
question_carried_back n A C f q g h R link = closed_kept n (actions A) (lamps A) A C f (λ p r. Carried (other h) (other g) (flipped R) r p) (Carried g h R) (converse (linked link)) q.bound q.lettered
