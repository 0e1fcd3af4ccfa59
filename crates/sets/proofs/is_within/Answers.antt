use Rattle.std.proofs.Common.{arith}
use Rattle.sets.proofs.Words.{within_word}
use Rattle.sets.proofs.is_within.Goals as goal

pub returns : goal.returns
returns c = within_word 64 c.args.a c.args.b (omega arith)
