-- A value for each of the three variables, as a function of them.
use Rattle.calculus.specs.declared.environment.Environment.{Environment}
use Rattle.calculus.specs.declared.syntax.Variable.{Variable}
use Rattle.calculus.specs.declared.syntax.Variable.TheVariants.{X, Y, Z}

abbrev pub value_at : {T : Type 0} → Environment T → Variable → T
value_at e X = e.x
value_at e Y = e.y
value_at e Z = e.z
