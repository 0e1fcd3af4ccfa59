use Rattle.std.proofs.Common.{sym, ◌∙◌, arith}
use Rattle.std.proofs.lemmas.Bool.{le-ltb}
use Rattle.sets.proofs.Words.{has_beyond}
use Rattle.sets.proofs.contains.Goals as goal

pub returns-else-j-lt-WIDTH : goal.returns-else-j-lt-WIDTH
returns-else-j-lt-WIDTH c =
    le-ltb c.args.j 64 c.if-j-lt-WIDTH.false ∙ sym (has_beyond 64 c.args.set c.args.j (omega arith) c.if-j-lt-WIDTH.false)
