-- The characteristic formula of a state to a depth: it says what the ladder asks of a state below
-- it, as many steps deep, and so holds necessarily exactly where the ladder joins.
use Rattle.std.proofs.Common.{◌≡◌, ℕ, zero, suc, ◌<◌, Bool, true, false, cond, not, ◌&&◌, ◌||◌, ltb, refl, ap, ◌∙◌, arith}
use Rattle.std.proofs.lemmas.Bool.{and_from, lt-ltb}
use Rattle.systems.specs.Bounded.{any, all}
use Rattle.systems.specs.Meaning.{Meaning, states, actions, lamps}
use Rattle.systems.specs.Words.{possible, certain, is_off}
use Rattle.systems.specs.declared.kinds.Light.{Light}
use Rattle.systems.specs.declared.kinds.Light.TheVariants.{Unknown, On, Off}
use Rattle.calculus.specs.declared.syntax.Leaf.TheVariants.{True, False, Lamp}
use Rattle.calculus.specs.declared.syntax.Prefix.TheVariants.{Not, Diamond, Box}
use Rattle.calculus.specs.declared.syntax.Binary.{Binary}
use Rattle.calculus.specs.declared.syntax.Binary.TheVariants.{And, Or}
use Rattle.calculus.specs.Formula.{Formula, leaf, prefix, binary, closed, within_letters}
use Rattle.calculus.specs.Marks.{nothing}
use Rattle.logic.specs.Theorems.{Question}
use Rattle.systems.proofs.Bounded.{any_same, all_same}
use Rattle.logic.proofs.Denotation.{pair_at}
use Rattle.logic.proofs.Ladder.{agrees, lights_agree, certain_answer, possible_answer, certain_answered, possible_answered, ladder}

-- the formulas g of the numbers below n, all of them, or some of them
abbrev pub conjunction : ℕ → (ℕ → Formula) → Formula
conjunction zero g = leaf True
conjunction (suc n) g = binary And (g n) (conjunction n g)

abbrev pub disjunction : ℕ → (ℕ → Formula) → Formula
disjunction zero g = leaf False
disjunction (suc n) g = binary Or (g n) (disjunction n g)

-- the lamp shows what a known light shows
abbrev pub literal : ℕ → Light → Formula
literal l Unknown = leaf True
literal l On = leaf (Lamp l)
literal l Off = prefix Not (leaf (Lamp l))

-- the known lights of the state a
abbrev pub lights_formula : Meaning → ℕ → Formula
lights_formula A a = conjunction (lamps A) (λ l. literal l (A.light a l))

-- a certain move of a on x to t can be made, into a state where the formula g of t holds
abbrev pub certain_conjunct : Meaning → (ℕ → Formula) → ℕ → ℕ → ℕ → Formula
certain_conjunct A g a x t = cond (certain (A.kind a x t)) (prefix (Diamond x) (g t)) (leaf True)

-- the state is one that a possible move of a on x to t allows
abbrev pub possible_disjunct : Meaning → (ℕ → Formula) → ℕ → ℕ → ℕ → Formula
possible_disjunct A g a x t = cond (possible (A.kind a x t)) (g t) (leaf False)

-- each certain move of a can be made
abbrev pub certain_formula : Meaning → (ℕ → Formula) → ℕ → Formula
certain_formula A g a = conjunction (actions A) (λ x. conjunction (states A) (certain_conjunct A g a x))

-- each move enters a state that some possible move of a allows
abbrev pub possible_formula : Meaning → (ℕ → Formula) → ℕ → Formula
possible_formula A g a = conjunction (actions A) (λ x. prefix (Box x) (disjunction (states A) (possible_disjunct A g a x)))

abbrev pub characteristic : Meaning → ℕ → ℕ → Formula
characteristic A zero a = leaf True
characteristic A (suc i) a = binary And (lights_formula A a) (binary And (certain_formula A (characteristic A i) a) (possible_formula A (characteristic A i) a))

-- It is closed, over the letters of A.
module _ (A : Meaning) where
  binary_question : (o : Binary) (f g : Formula) → Question A f → Question A g → Question A (binary o f g)
  binary_question o f g p q = record {
    bound = and_from (closed f) (closed g) p.bound q.bound;
    lettered = and_from (within_letters (actions A) (lamps A) f) (within_letters (actions A) (lamps A) g) p.lettered q.lettered;
  }

  conjunction_question : (n : ℕ) (g : ℕ → Formula) → ((k : ℕ) → k < n → Question A (g k)) → Question A (conjunction n g)
  conjunction_question zero g each = record { bound = refl; lettered = refl }
  conjunction_question (suc n) g each = binary_question And (g n) (conjunction n g) (each n (omega arith)) (conjunction_question n g (λ k lt. each k (omega arith)))

  disjunction_question : (n : ℕ) (g : ℕ → Formula) → ((k : ℕ) → k < n → Question A (g k)) → Question A (disjunction n g)
  disjunction_question zero g each = record { bound = refl; lettered = refl }
  disjunction_question (suc n) g each = binary_question Or (g n) (disjunction n g) (each n (omega arith)) (disjunction_question n g (λ k lt. each k (omega arith)))

  literal_question : (l : ℕ) → l < lamps A → (v : Light) → Question A (literal l v)
  literal_question l lt Unknown = record { bound = refl; lettered = refl }
  literal_question l lt On = record { bound = refl; lettered = lt-ltb l (lamps A) lt }
  literal_question l lt Off = record { bound = refl; lettered = lt-ltb l (lamps A) lt }

  certain_question : (x : ℕ) → x < actions A → (b : Bool) (f : Formula) → Question A f → Question A (cond b (prefix (Diamond x) f) (leaf True))
  certain_question x lt true f q = record { bound = q.bound; lettered = and_from (ltb x (actions A)) (within_letters (actions A) (lamps A) f) (lt-ltb x (actions A) lt) q.lettered }
  certain_question x lt false f q = record { bound = refl; lettered = refl }

  possible_question : (b : Bool) (f : Formula) → Question A f → Question A (cond b f (leaf False))
  possible_question true f q = q
  possible_question false f q = record { bound = refl; lettered = refl }

  box_question : (x : ℕ) → x < actions A → (f : Formula) → Question A f → Question A (prefix (Box x) f)
  box_question x lt f q = record { bound = q.bound; lettered = and_from (ltb x (actions A)) (within_letters (actions A) (lamps A) f) (lt-ltb x (actions A) lt) q.lettered }

  module _ (g : ℕ → Formula) (each : (t : ℕ) → Question A (g t)) where
    certain_formula_question : (a : ℕ) → Question A (certain_formula A g a)
    certain_formula_question a =
        conjunction_question (actions A) (λ x. conjunction (states A) (certain_conjunct A g a x))
        (λ x lt. conjunction_question (states A) (certain_conjunct A g a x) (λ t within. certain_question x lt (certain (A.kind a x t)) (g t) (each t)))

    possible_formula_question : (a : ℕ) → Question A (possible_formula A g a)
    possible_formula_question a =
        conjunction_question (actions A) (λ x. prefix (Box x) (disjunction (states A) (possible_disjunct A g a x)))
        (λ x lt. box_question x lt (disjunction (states A) (possible_disjunct A g a x)) (disjunction_question (states A) (possible_disjunct A g a x) (λ t within. possible_question (possible (A.kind a x t)) (g t) (each t))))

  pub characteristic_question : (i a : ℕ) → Question A (characteristic A i a)
  characteristic_question zero a = record { bound = refl; lettered = refl }
  characteristic_question (suc i) a =
      let deeper : (t : ℕ) → Question A (characteristic A i t) = characteristic_question i in
      let g = characteristic A i in
      binary_question And (lights_formula A a) (binary And (certain_formula A g a) (possible_formula A g a))
      (conjunction_question (lamps A) (λ l. literal l (A.light a l)) (λ l lt. literal_question l lt (A.light a l)))
      (binary_question And (certain_formula A g a) (possible_formula A g a) (certain_formula_question g deeper a) (possible_formula_question g deeper a))

-- the formula's computed pair has the state in its necessary set
abbrev pub holds : ℕ → Meaning → Formula → ℕ → Bool
holds n M f s = (pair_at n M f nothing).necessary s

module _ (n : ℕ) (M : Meaning) where
  pub conjunction_holds : (k : ℕ) (g : ℕ → Formula) (s : ℕ) → holds n M (conjunction k g) s ≡ all k (λ i. holds n M (g i) s)
  conjunction_holds zero g s = refl
  conjunction_holds (suc k) g s = ap (λ b. holds n M (g k) s && b) (conjunction_holds k g s)

  pub disjunction_holds : (k : ℕ) (g : ℕ → Formula) (s : ℕ) → holds n M (disjunction k g) s ≡ any k (λ i. holds n M (g i) s)
  disjunction_holds zero g s = refl
  disjunction_holds (suc k) g s = ap (λ b. holds n M (g k) s || b) (disjunction_holds k g s)

  literal_holds : (l : ℕ) (v : Light) (s : ℕ) → holds n M (literal l v) s ≡ agrees v (M.light s l)
  literal_holds l Unknown s = refl
  literal_holds l On s = refl
  literal_holds l Off s = twice (is_off (M.light s l))
    where
      twice : (b : Bool) → not (not b) ≡ b
      twice true = refl
      twice false = refl

-- It holds at the states of C that the ladder, as many steps deep, joins with a.
module _ (n : ℕ) (C A : Meaning) where
  lights_told : (a c : ℕ) → holds n C (lights_formula A a) c ≡ lights_agree C A c a
  lights_told a c =
      conjunction_holds n C (lamps A) (λ l. literal l (A.light a l)) c ∙
      all_same (lamps A) _ _ (λ l lt. literal_holds n C l (A.light a l) c)

  module _ (g : ℕ → Formula) (R : ℕ → ℕ → Bool) (told : (t u : ℕ) → holds n C (g t) u ≡ R u t) where
    certain_told : (a c : ℕ) → holds n C (certain_formula A g a) c ≡ certain_answered C A R c a
    certain_told a c =
        conjunction_holds n C (actions A) (λ x. conjunction (states A) (certain_conjunct A g a x)) c ∙
        all_same (actions A) _ _
        (λ x lt. conjunction_holds n C (states A) (certain_conjunct A g a x) c ∙ all_same (states A) _ (certain_answer C A R c a x) (λ t within. one x t (certain (A.kind a x t))))
      where
        one : (x t : ℕ) (b : Bool) → holds n C (cond b (prefix (Diamond x) (g t)) (leaf True)) c ≡ (not b || any (states C) (λ u. certain (C.kind c x u) && R u t))
        one x t true = any_same (states C) _ _ (λ u within. ap (λ b. certain (C.kind c x u) && b) (told t u))
        one x t false = refl

    possible_told : (a c : ℕ) → holds n C (possible_formula A g a) c ≡ possible_answered C A R c a
    possible_told a c =
        conjunction_holds n C (actions A) (λ x. prefix (Box x) (disjunction (states A) (possible_disjunct A g a x))) c ∙
        all_same (actions A) _ _
        (λ x lt. all_same (states C) _ (possible_answer C A R c a x)
        (λ u within. ap (λ b. not (possible (C.kind c x u)) || b)
        (disjunction_holds n C (states A) (possible_disjunct A g a x) u ∙ any_same (states A) _ _ (λ t within'. one t u (possible (A.kind a x t))))))
      where
        one : (t u : ℕ) (b : Bool) → holds n C (cond b (g t) (leaf False)) u ≡ (b && R u t)
        one t u true = told t u
        one t u false = refl

  pub characteristic_told : (i a c : ℕ) → holds n C (characteristic A i a) c ≡ ladder C A i c a
  characteristic_told zero a c = refl
  characteristic_told (suc i) a c =
      let deeper : (t u : ℕ) → holds n C (characteristic A i t) u ≡ ladder C A i u t = characteristic_told i in
      let g = characteristic A i in
      let R = ladder C A i in
      ap (λ b. b && (holds n C (certain_formula A g a) c && holds n C (possible_formula A g a) c)) (lights_told a c) ∙
      ap (λ b. lights_agree C A c a && (b && holds n C (possible_formula A g a) c)) (certain_told g R deeper a c) ∙
      ap (λ b. lights_agree C A c a && (certain_answered C A R c a && b)) (possible_told g R deeper a c)
