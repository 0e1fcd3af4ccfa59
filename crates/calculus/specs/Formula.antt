-- Formulas, of any length and depth.
use Rattle.std.specs.Prelude.{Bool, true, false, cond, ◌&&◌, ℕ, suc, max, ltb}
use Rattle.calculus.specs.declared.syntax.Variable.{Variable}
use Rattle.calculus.specs.declared.syntax.Variable.TheVariants.{X, Y, Z}
use Rattle.calculus.specs.declared.syntax.Leaf.{Leaf}
use Rattle.calculus.specs.declared.syntax.Leaf.TheVariants.{True, False, Lamp, Var}
use Rattle.calculus.specs.declared.syntax.Prefix.{Prefix}
use Rattle.calculus.specs.declared.syntax.Prefix.TheVariants.{Not, Diamond, Box, Least, Greatest}
use Rattle.calculus.specs.declared.syntax.Binary.{Binary}
use Rattle.calculus.specs.declared.syntax.Standing.{Standing}
use Rattle.calculus.specs.declared.syntax.Standing.TheVariants.{Free, Even, Odd}

pub data Formula : Type 0 where
  leaf : Leaf → Formula
  prefix : Prefix → Formula → Formula
  binary : Binary → Formula → Formula → Formula

abbrev pub same : Variable → Variable → Bool
same X X = true
same X Y = false
same X Z = false
same Y X = false
same Y Y = true
same Y Z = false
same Z X = false
same Z Y = false
same Z Z = true

-- e, but v at x
abbrev pub at_variable : {V : Type 0} → (Variable → V) → Variable → V → Variable → V
at_variable e x v y = cond (same x y) v (e y)

-- how a variable stands under one negation more
abbrev pub negated : Standing → Standing
negated Free = Free
negated Even = Odd
negated Odd = Even

abbrev pub is_even : Standing → Bool
is_even Free = false
is_even Even = true
is_even Odd = false

-- going up from any variable to what binds it, one meets negations an even number of times; the
-- variables that the formula itself leaves free stand as e says
abbrev pub closed_under : (Variable → Standing) → Formula → Bool
closed_under e (leaf True) = true
closed_under e (leaf False) = true
closed_under e (leaf (Lamp l)) = true
closed_under e (leaf (Var x)) = is_even (e x)
closed_under e (prefix Not f) = closed_under (λ x. negated (e x)) f
closed_under e (prefix (Diamond a) f) = closed_under e f
closed_under e (prefix (Box a) f) = closed_under e f
closed_under e (prefix (Least x) f) = closed_under (at_variable e x Even) f
closed_under e (prefix (Greatest x) f) = closed_under (at_variable e x Even) f
closed_under e (binary o f g) = closed_under e f && closed_under e g

abbrev pub closed : Formula → Bool
closed f = closed_under (λ x. Free) f

-- the formula names only actions below k and lamps below n
abbrev pub within_letters : ℕ → ℕ → Formula → Bool
within_letters k n (leaf True) = true
within_letters k n (leaf False) = true
within_letters k n (leaf (Lamp l)) = ltb l n
within_letters k n (leaf (Var x)) = true
within_letters k n (prefix Not f) = within_letters k n f
within_letters k n (prefix (Diamond a) f) = ltb a k && within_letters k n f
within_letters k n (prefix (Box a) f) = ltb a k && within_letters k n f
within_letters k n (prefix (Least x) f) = within_letters k n f
within_letters k n (prefix (Greatest x) f) = within_letters k n f
within_letters k n (binary o f g) = within_letters k n f && within_letters k n g

-- how many binders stand within one another
abbrev pub nesting : Formula → ℕ
nesting (leaf l) = 0
nesting (prefix Not f) = nesting f
nesting (prefix (Diamond a) f) = nesting f
nesting (prefix (Box a) f) = nesting f
nesting (prefix (Least x) f) = suc (nesting f)
nesting (prefix (Greatest x) f) = suc (nesting f)
nesting (binary o f g) = max (nesting f) (nesting g)
