use Rattle.logic.proofs.Characterised.{equality}
use Rattle.logic.proofs.theorems.equal_marks_refine_both_ways.Goals as goal

pub returns : goal.returns
returns c = equality
