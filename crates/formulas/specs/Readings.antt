-- What a text is answered with that should be a closed formula over k actions and n lamps.
use Rattle.std.specs.Prelude.{◌≡◌, ℕ, Bool, true, false, cond, not, ◌||◌, List, length, Ok, Err, ◌==◌, nat_lt}
use Rattle.systems.specs.Edits.{Answer}
use Rattle.systems.specs.declared.refusal.Refusal.{Refusal}
use Rattle.systems.specs.declared.refusal.Refusal.TheVariants.{FormulaLength, NotFormula, ForeignLetter, Unbound, Nesting}
use Rattle.calculus.specs.Formula.{Formula, closed, within_letters, nesting}
use Rattle.formulas.specs.Texts.{Reads}

abbrev pub wrong_length : List ℕ → Bool
wrong_length t = length t == 0 || nat_lt 128 (length t)

-- what is asked of a formula: letters that the system has, every variable bound with an even number
-- of negations up to it, and at most 3 binders within one another
abbrev pub formula_answer : ℕ → ℕ → Formula → Answer
formula_answer k n f = cond (not (within_letters k n f)) (Err ForeignLetter) (cond (not (closed f)) (Err Unbound) (cond (nat_lt 3 (nesting f)) (Err Nesting) (Ok tt)))

-- the text is read as f, and f is as it should be
pub record Accepted (k n : ℕ) (t : List ℕ) (f : Formula) : Type 0 where
  pub length_fits : wrong_length t ≡ false
  pub reads : Reads t f
  pub answer : formula_answer k n f ≡ Ok tt

-- the text is refused with e, and no earlier refusal applies
pub data Refused (k n : ℕ) (t : List ℕ) : Refusal → Type 0 where
  by_length : wrong_length t ≡ true → Refused k n t FormulaLength
  by_form : wrong_length t ≡ false → ((f : Formula) → Reads t f → ⊥) → Refused k n t NotFormula
  by_formula : {e : Refusal} → wrong_length t ≡ false → (f : Formula) → Reads t f → formula_answer k n f ≡ Err e → Refused k n t e

-- a text is read in one way at most
abbrev pub OneReading : Type 0
OneReading = (t : List ℕ) (f g : Formula) → Reads t f → Reads t g → f ≡ g
