-- Where a text of questions may end.
use Rattle.std.specs.Prelude.{Bool, true, false}
use Rattle.questions.specs.declared.phase.Phase.{Phase}
use Rattle.questions.specs.declared.phase.Phase.TheVariants.{Part, Formulas}

abbrev pub in_formulas : Phase → Bool
in_formulas (Part stage) = false
in_formulas Formulas = true
