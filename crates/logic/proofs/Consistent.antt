-- The necessary set lies within the possible one, and in a definite system the two are equal: links
-- of a system with itself, from one side to the other.
use Rattle.std.proofs.Common.{◌≡◌, ℕ, ◌*◌, ◌<◌, true, not, sym, refl, ◌∙◌, arith}
use Rattle.systems.specs.Meaning.{Meaning, states, actions, lamps}
use Rattle.systems.specs.Words.{possible, certain, known, is_on, is_off}
use Rattle.systems.specs.declared.kinds.Kind.{Kind}
use Rattle.systems.specs.declared.kinds.Kind.TheVariants.{Absent, Optional, Certain}
use Rattle.systems.specs.declared.kinds.Light.{Light}
use Rattle.systems.specs.declared.kinds.Light.TheVariants.{Unknown, On, Off}
use Rattle.logic.specs.Theorems.{Consistency, Definite, Definiteness}
use Rattle.logic.proofs.Monotone.{Itself, itself_linked}
use Rattle.logic.proofs.Questions.{question_same, question_carried}
use Rattle.logic.proofs.Sides.{needed, allowed, Link}
use Rattle.logic.proofs.Truth.{tests_same}

pub on_not_off : (v : Light) → is_on v ≡ true → not (is_off v) ≡ true
on_not_off Unknown e = refl
on_not_off On e = refl
on_not_off Off e = e

pub certain_possible : (m : Kind) → certain m ≡ true → possible m ≡ true
certain_possible Absent e = e
certain_possible Optional e = refl
certain_possible Certain e = refl

consistent_linked : (M : Meaning) → Link (actions M) (lamps M) M M needed allowed (Itself (states M))
consistent_linked M = itself_linked (actions M) (lamps M) M needed allowed shown shown made made
  where
    shown : (s i : ℕ) → s < states M → i < lamps M → is_on (M.light s i) ≡ true → not (is_off (M.light s i)) ≡ true
    shown s i within lt = on_not_off (M.light s i)

    made : (s x t : ℕ) → s < states M → x < actions M → t < states M → certain (M.kind s x t) ≡ true → possible (M.kind s x t) ≡ true
    made s x t within lt within' = certain_possible (M.kind s x t)

pub consistency : Consistency
consistency M f q p m s lt e =
    let n = states M * 2 in
    let is = question_same n M (omega arith) f q p m s lt in
    is.1 ∙ question_carried n M M f q needed allowed (Itself (states M)) (consistent_linked M) s s (refl, lt) (sym is.0 ∙ e)

known_on : (v : Light) → known v ≡ true → not (is_off v) ≡ true → is_on v ≡ true
known_on Unknown e h = e
known_on On e h = refl
known_on Off e h = h

definite_linked : (M : Meaning) → Definite M → Link (actions M) (lamps M) M M allowed needed (Itself (states M))
definite_linked M definite = itself_linked (actions M) (lamps M) M allowed needed shown shown made made
  where
    shown : (s i : ℕ) → s < states M → i < lamps M → not (is_off (M.light s i)) ≡ true → is_on (M.light s i) ≡ true
    shown s i within lt = known_on (M.light s i) (definite.lights s i within lt)

    made : (s x t : ℕ) → s < states M → x < actions M → t < states M → possible (M.kind s x t) ≡ true → certain (M.kind s x t) ≡ true
    made s x t within lt within' h = sym (definite.moves s x t within lt within') ∙ h

pub definiteness : Definiteness
definiteness M f definite q p m s lt =
    let n = states M * 2 in
    let is = question_same n M (omega arith) f q p m s lt in
    let carried = question_carried n M M f q allowed needed (Itself (states M)) (definite_linked M definite) s s (refl, lt) in
    tests_same (p.necessary s) (p.possibly s) (consistency M f q p m s lt) (λ e. is.0 ∙ carried (sym is.1 ∙ e))
