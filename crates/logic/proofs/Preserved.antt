-- A refinement carries true and false downwards.
use Rattle.std.proofs.Common.{◌≡◌, ℕ, ◌+◌, ◌*◌, Bool, true, not, sym, refl, ◌∙◌, subst, arith}
use Rattle.systems.specs.Meaning.{Meaning, states, actions, lamps}
use Rattle.systems.specs.Refinement.{Joined, Refines}
use Rattle.systems.specs.Words.{known, is_on, is_off}
use Rattle.systems.specs.declared.kinds.Light.{Light}
use Rattle.systems.specs.declared.kinds.Light.TheVariants.{Unknown, On, Off}
use Rattle.calculus.specs.declared.syntax.Mark.{Mark}
use Rattle.calculus.specs.Pairs.{Pair}
use Rattle.calculus.specs.Marks.{mark_of, nothing}
use Rattle.logic.specs.Theorems.{Question, Settled, as_true, as_false, Preservation}
use Rattle.logic.proofs.Consistent.{consistency}
use Rattle.logic.proofs.Denotation.{pair_at}
use Rattle.logic.proofs.Marking.{true_marks, false_marks, marks_true, marks_false}
use Rattle.logic.proofs.Questions.{question_computed, question_same, question_of, question_carried, question_carried_back}
use Rattle.logic.proofs.Sides.{needed, flipped, Link}
use Rattle.logic.proofs.Truth.{not_so}

on_known : (v : Light) → is_on v ≡ true → known v ≡ true
on_known Unknown e = e
on_known On e = refl
on_known Off e = refl

-- a lamp of C that may be on may be on in A, where a light that A knows is C's
on_kept : (v w : Light) → (known v ≡ true → w ≡ v) → not (is_off w) ≡ true → not (is_off v) ≡ true
on_kept Unknown w agree e = refl
on_kept On w agree e = refl
on_kept Off w agree e = subst (λ u. not (is_off u) ≡ true) (agree refl) e

-- the refinement R, read from A to C
pub refinement_linked : (C A : Meaning) (R : ℕ → ℕ → Bool) → Refines C A R → Link (actions A) (lamps A) A C needed needed (flipped (Joined C A R))
refinement_linked C A R refines = record {
  lamps_ahead = λ a c l r lt e. subst (λ v. is_on v ≡ true) (sym (refines.lights c a l r lt (on_known (A.light a l) e))) e;
  lamps_back = λ a c l r lt e. on_kept (A.light a l) (C.light c l) (refines.lights c a l r lt) e;
  moves_ahead = λ a c x t r lt within e.
      let answer = refines.certain_moves c a x t r lt within e in
      (answer.target, answer.joined.lower, answer.move, answer.joined);
  moves_back = λ a c x t r lt within e.
      let answer = refines.possible_moves c a x t r lt within e in
      (answer.target, answer.joined.upper, answer.move, answer.joined);
}

pub preservation : Preservation
preservation C A alike c a (R, refines, joined) f q m settled (p, means, mark) = (lower, question_computed n C (omega arith) f below, go settled mark)
  where
    n : ℕ
    n = states A * 2 + states C * 2

    below : Question C f
    below = question_of C A alike f q

    upper : Pair
    upper = pair_at n A f nothing

    lower : Pair
    lower = pair_at n C f nothing

    link : Link (actions A) (lamps A) A C needed needed (flipped (Joined C A R))
    link = refinement_linked C A R refines

    is : (p.necessary a ≡ upper.necessary a) × (p.possibly a ≡ upper.possibly a)
    is = question_same n A (omega arith) f q p means a joined.upper

    ahead : upper.necessary a ≡ true → lower.necessary c ≡ true
    ahead = question_carried n A C f q needed needed (flipped (Joined C A R)) link a c joined

    behind : lower.possibly c ≡ true → upper.possibly a ≡ true
    behind = question_carried_back n A C f q needed needed (flipped (Joined C A R)) link c a joined

    go : {m : Mark} → Settled m → mark_of p a ≡ m → mark_of lower c ≡ m
    go as_true e = marks_true lower c (ahead (sym is.0 ∙ true_marks p a e))
    go as_false e =
        marks_false lower c (consistency C f below lower (question_computed n C (omega arith) f below) c joined.lower)
        (not_so (lower.possibly c) (upper.possibly a) behind (sym is.1 ∙ false_marks p a e))
