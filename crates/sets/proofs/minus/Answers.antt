use Rattle.std.proofs.Common.{arith}
use Rattle.sets.proofs.Words.{has_minus}
use Rattle.sets.proofs.minus.Goals as goal

pub returns : goal.returns
returns c i = has_minus 64 c.args.a c.args.b i (omega arith) (omega arith)
