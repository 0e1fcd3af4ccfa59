use Rattle.logic.proofs.Tighter.{kept}
use Rattle.logic.proofs.theorems.tightening_keeps_marks.Goals as goal

pub returns : goal.returns
returns c = kept
