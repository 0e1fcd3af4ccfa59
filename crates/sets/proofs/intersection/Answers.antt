use Rattle.sets.proofs.Words.{has_and}
use Rattle.sets.proofs.intersection.Goals as goal

pub returns : goal.returns
returns c = has_and c.args.a c.args.b
