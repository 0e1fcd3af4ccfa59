use Rattle.logic.proofs.Consistent.{consistency}
use Rattle.logic.proofs.theorems.marks_are_consistent.Goals as goal

pub returns : goal.returns
returns c = consistency
