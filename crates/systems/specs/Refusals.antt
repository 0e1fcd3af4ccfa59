-- The numbers of the refusals.
use Rattle.std.specs.Prelude.{ℕ}
use Rattle.systems.specs.declared.refusal.Refusal.{Refusal}
use Rattle.systems.specs.declared.refusal.Refusal.TheVariants.{Length, Form, States, Letters, Start, NoState, NoLetter, Repeated, NotOptional, NotUnknown, FormulaLength, NotFormula, ForeignLetter, Unbound, Nesting, Mismatch, Rows, NotRefinement, Full}

abbrev pub number_of : Refusal → ℕ
number_of Length = 1
number_of Form = 2
number_of States = 3
number_of Letters = 4
number_of Start = 5
number_of NoState = 6
number_of NoLetter = 7
number_of Repeated = 8
number_of NotOptional = 9
number_of NotUnknown = 10
number_of FormulaLength = 11
number_of NotFormula = 12
number_of ForeignLetter = 13
number_of Unbound = 14
number_of Nesting = 15
number_of Mismatch = 16
number_of Rows = 17
number_of NotRefinement = 18
number_of Full = 19
