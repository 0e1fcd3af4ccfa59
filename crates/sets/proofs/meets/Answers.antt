use Rattle.std.proofs.Common.{arith}
use Rattle.sets.proofs.Words.{meets_word}
use Rattle.sets.proofs.meets.Goals as goal

pub returns : goal.returns
returns c = meets_word 64 c.args.a c.args.b (omega arith)
