use Rattle.std.proofs.Common.{◌-◌, ap, ◌∙◌}
use Rattle.std.proofs.lemmas.Nat.{one_shl}
use Rattle.sets.specs.Sets.{has}
use Rattle.sets.proofs.Words.{has_below, has_all}
use Rattle.sets.proofs.below.Goals as goal

pub returns-then-n-lt-WIDTH : goal.returns-then-n-lt-WIDTH
returns-then-n-lt-WIDTH c j = ap (λ w. has (w - 1) j) (one_shl c.args.n 64 c.if-n-lt-WIDTH.true) ∙ has_below 64 c.args.n j c.if-n-lt-WIDTH.true

pub returns-else-n-lt-WIDTH : goal.returns-else-n-lt-WIDTH
returns-else-n-lt-WIDTH c j = has_all 64 c.args.n j c.if-n-lt-WIDTH.false
