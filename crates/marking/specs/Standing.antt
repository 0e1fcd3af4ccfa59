-- What makes the body of every binder in a formula monotone.
use Rattle.std.specs.Prelude.{◌≡◌, true}
use Rattle.calculus.specs.declared.syntax.Variable.{Variable}
use Rattle.calculus.specs.Formula.{Formula, closed_under}
use Rattle.calculus.specs.declared.syntax.Standing.{Standing}

-- a formula as it may stand in a closed one: it is closed where its variables stand in some way
pub record ClosedPart (f : Formula) : Type 0 where
  pub standings : Variable → Standing
  pub closed : closed_under standings f ≡ true
