use Rattle.std.proofs.Common.{sym, ap}
use Rattle.calculus.specs.Formula.{closed_under}
use Rattle.formulas.proofs.standings.in_body.Goals as goal

pub returns : goal.returns
returns c f = ap (λ e. closed_under e f) (sym c.with.ensures)
