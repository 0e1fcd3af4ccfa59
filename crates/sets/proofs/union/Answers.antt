use Rattle.sets.proofs.Words.{has_or}
use Rattle.sets.proofs.union.Goals as goal

pub returns : goal.returns
returns c = has_or c.args.a c.args.b
