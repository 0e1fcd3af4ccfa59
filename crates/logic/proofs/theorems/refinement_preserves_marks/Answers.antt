use Rattle.logic.proofs.Preserved.{preservation}
use Rattle.logic.proofs.theorems.refinement_preserves_marks.Goals as goal

pub returns : goal.returns
returns c = preservation
