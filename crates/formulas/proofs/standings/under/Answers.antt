use Rattle.std.proofs.Common.{sym, ap}
use Rattle.calculus.specs.Formula.{closed_under}
use Rattle.formulas.proofs.standings.under.Goals as goal

pub returns-in-Not : goal.returns-in-Not
returns-in-Not c f = rw c.in-Not.is (ap (λ e. closed_under e f) (sym c.negated.ensures))
