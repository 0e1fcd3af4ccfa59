-- Where true carries over some refinement joins the states, and marks are equal exactly where
-- refinements join them both ways.
use Rattle.std.proofs.Common.{◌≡◌, ℕ, ◌*◌, ◌<◌, true, eqb, sym, refl, ◌∙◌, arith}
use Rattle.std.proofs.lemmas.Bool.{eq-eqb}
use Rattle.systems.specs.Meaning.{Meaning, states}
use Rattle.systems.specs.Refinement.{Alike}
use Rattle.calculus.specs.declared.syntax.Mark.{Mark}
use Rattle.calculus.specs.declared.syntax.Mark.TheVariants.{True, False, Unknown}
use Rattle.calculus.specs.Formula.{Formula}
use Rattle.calculus.specs.Pairs.{Pair}
use Rattle.calculus.specs.Marks.{Means, Marked, mark_of, nothing}
use Rattle.logic.specs.Theorems.{Question, as_true, as_false, Refined, Carries, EqualMarks, Characterisation, Equality}
use Rattle.logic.proofs.Characteristic.{characteristic, characteristic_question, characteristic_told}
use Rattle.logic.proofs.Denotation.{pair_at}
use Rattle.logic.proofs.Ladder.{ladder, ladder_rests, resting_refines, ladder_widest}
use Rattle.logic.proofs.Marking.{true_marks, marks_true, one_mark}
use Rattle.logic.proofs.Preserved.{preservation}
use Rattle.logic.proofs.Questions.{question_computed, question_same, question_of}
use Rattle.logic.proofs.Tighter.{tighter_refines, tight_itself}

-- The characteristic formula of a state is true there, at every depth.
pub characteristic_true : (A : Meaning) (i a : ℕ) → a < states A → Marked A (characteristic A i a) a True
characteristic_true A i a within =
    let n = states A * 2 in
    let f = characteristic A i a in
    let itself : ladder A A i a a ≡ true = ladder_widest A A eqb (tighter_refines A A (tight_itself A)) i a a within within (eq-eqb a a refl) in
    (pair_at n A f nothing, question_computed n A (omega arith) f (characteristic_question A i a), marks_true (pair_at n A f nothing) a (characteristic_told n A A i a a ∙ itself))

-- Where it is true below, the ladder joins the states.
pub characteristic_joins : (C A : Meaning) → Alike C A → (i c a : ℕ) → c < states C → Marked C (characteristic A i a) c True → ladder C A i c a ≡ true
characteristic_joins C A alike i c a within (p, means, mark) =
    let n = states C * 2 in
    let f = characteristic A i a in
    let is = question_same n C (omega arith) f (question_of C A alike f (characteristic_question A i a)) p means c within in
    sym (characteristic_told n C A i a c) ∙ (sym is.0 ∙ true_marks p c mark)

pub characterisation : Characterisation
characterisation C A alike c a c_in a_in carries =
    let i = states C * states A in
    let f = characteristic A i a in
    let joins = characteristic_joins C A alike i c a c_in (carries f (characteristic_question A i a) (characteristic_true A i a a_in)) in
    (ladder C A i, resting_refines C A i (ladder_rests C A i (omega arith)), record { lower = c_in; upper = a_in; related = joins })

alike_back : (C A : Meaning) → Alike C A → Alike A C
alike_back C A alike = record { same_actions = sym alike.same_actions; same_lamps = sym alike.same_lamps }

-- a mark carried both ways, the unknown one since no other can be
marks_carried : (C A : Meaning) (c a : ℕ) → c < states C → a < states A → Alike C A → Carries A a C c → Carries C c A a → (f : Formula) → Question A f → (m : Mark) → Marked C f c m → Marked A f a m
marks_carried C A c a c_in a_in alike down up f q True marked = up f (question_of C A alike f q) True as_true marked
marks_carried C A c a c_in a_in alike down up f q False marked = up f (question_of C A alike f q) False as_false marked
marks_carried C A c a c_in a_in alike down up f q Unknown marked = go (mark_of p a) refl
  where
    n : ℕ
    n = states A * 2

    p : Pair
    p = pair_at n A f nothing

    means : Means A f nothing p
    means = question_computed n A (omega arith) f q

    go : (m : Mark) → mark_of p a ≡ m → Marked A f a Unknown
    go True e = (p, means, e ∙ one_mark C f c c_in True Unknown (down f q True as_true (p, means, e)) marked)
    go False e = (p, means, e ∙ one_mark C f c c_in False Unknown (down f q False as_false (p, means, e)) marked)
    go Unknown e = (p, means, e)

pub equality : Equality
equality C A alike c a c_in a_in = (refined, marked)
  where
    other_way : Alike A C
    other_way = alike_back C A alike

    refined : EqualMarks C c A a → Refined C c A a × Refined A a C c
    refined equal = (
      characterisation C A alike c a c_in a_in (λ f q. (equal f q True).1),
      characterisation A C other_way a c a_in c_in (λ f q. (equal f (question_of A C other_way f q) True).0),
    )

    marked : Refined C c A a × Refined A a C c → EqualMarks C c A a
    marked (down, up) f q m =
        let carries_down = preservation C A alike c a down in
        let carries_up = preservation A C other_way a c up in (
          marks_carried C A c a c_in a_in alike carries_down carries_up f q m,
          marks_carried A C a c a_in c_in other_way carries_up carries_down f (question_of C A alike f q) m,
        )
