use Rattle.std.proofs.Common.{ap, arith}
use Rattle.marking.proofs.Filled.{filled}
use Rattle.marking.proofs.moves.only_into.Goals as goal

pub returns : goal.returns
returns c = filled _ _ _ _ _ (ap (λ z. z.states) c.sizes.ensures) (omega arith) (λ i b e. e) c.select.ensures
