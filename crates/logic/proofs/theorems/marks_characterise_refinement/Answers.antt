use Rattle.logic.proofs.Characterised.{characterisation}
use Rattle.logic.proofs.theorems.marks_characterise_refinement.Goals as goal

pub returns : goal.returns
returns c = characterisation
