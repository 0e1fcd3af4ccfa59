use Rattle.std.proofs.Common.{ap, ◌∙◌}
use lib.Bits.{bit_or}
use Rattle.std.proofs.lemmas.Nat.{one_shl}
use Rattle.sets.specs.Sets.{has}
use Rattle.sets.proofs.Words.{has_with}
use Rattle.sets.proofs.with.Goals as goal

pub returns-then-j-lt-WIDTH : goal.returns-then-j-lt-WIDTH
returns-then-j-lt-WIDTH c i =
    ap (λ w. has (bit_or c.args.set w) i) (one_shl c.args.j 64 c.if-j-lt-WIDTH.true) ∙ has_with 64 c.args.set c.args.j i c.if-j-lt-WIDTH.true
