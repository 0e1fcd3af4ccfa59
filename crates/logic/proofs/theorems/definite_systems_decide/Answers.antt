use Rattle.logic.proofs.Consistent.{definiteness}
use Rattle.logic.proofs.theorems.definite_systems_decide.Goals as goal

pub returns : goal.returns
returns c = definiteness
