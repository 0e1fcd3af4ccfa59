-- Which way the iteration of a binder goes.
use Rattle.std.proofs.Common.{◌≡◌, ◌⊎◌, true, inl, inr}
use Rattle.calculus.specs.declared.syntax.Variable.{Variable}
use Rattle.calculus.specs.declared.syntax.Prefix.{Prefix}
use Rattle.calculus.specs.declared.syntax.Prefix.TheVariants.{Least, Greatest}
use Rattle.calculus.specs.Formula.{Formula, prefix, at_variable, closed_under}
use Rattle.calculus.specs.declared.syntax.Standing.{Standing}
use Rattle.calculus.specs.declared.syntax.Standing.TheVariants.{Even}
use Rattle.logic.proofs.Fixed.{Direction, rising, falling}
use Rattle.logic.proofs.Iteration.{binder}

-- downwards for a greatest fixed point, else upwards
abbrev pub direction : Formula → Direction
direction (prefix (Greatest x) f) = falling
direction _ = rising

pub is_binder : {g f : Formula} {p : Prefix} {x : Variable} → g ≡ prefix p f → (p ≡ Least x) ⊎ (p ≡ Greatest x) → g ≡ prefix (binder (direction g) x) f
is_binder made (inl e) = rw (made, e)
is_binder made (inr e) = rw (made, e)

pub body_closed : (d : Direction) (x : Variable) (f : Formula) (st : Variable → Standing) → closed_under st (prefix (binder d x) f) ≡ true → closed_under (at_variable st x Even) f ≡ true
body_closed rising x f st h = h
body_closed falling x f st h = h
