use Rattle.logic.proofs.Tighter.{tightening}
use Rattle.logic.proofs.theorems.tightening_refines.Goals as goal

pub returns : goal.returns
returns c = tightening
