-- How formulas are written.
use Rattle.std.specs.Prelude.{◌≡◌, ℕ, ◌+◌, true, List, [], ◌∷◌, ◌++◌}
use Rattle.calculus.specs.Formula.{Formula, leaf, prefix, binary, within_letters}
use Rattle.calculus.specs.declared.syntax.Variable.{Variable}
use Rattle.calculus.specs.declared.syntax.Variable.TheVariants.{X, Y, Z}
use Rattle.calculus.specs.declared.syntax.Leaf.{Leaf}
use Rattle.calculus.specs.declared.syntax.Leaf.TheVariants.{True, False, Lamp, Var}
use Rattle.calculus.specs.declared.syntax.Prefix.{Prefix}
use Rattle.calculus.specs.declared.syntax.Prefix.TheVariants.{Not, Diamond, Box, Least, Greatest}
use Rattle.calculus.specs.declared.syntax.Binary.{Binary}
use Rattle.calculus.specs.declared.syntax.Binary.TheVariants.{And, Or}

-- X, Y and Z
abbrev pub variable_sign : Variable → ℕ
variable_sign X = 88
variable_sign Y = 89
variable_sign Z = 90

-- actions are a to h, lamps p to w
abbrev pub action_sign : ℕ → ℕ
action_sign a = 97 + a

abbrev pub lamp_sign : ℕ → ℕ
lamp_sign l = 112 + l

-- T, F, a lamp, a variable
abbrev pub leaf_sign : Leaf → ℕ
leaf_sign True = 84
leaf_sign False = 70
leaf_sign (Lamp l) = lamp_sign l
leaf_sign (Var x) = variable_sign x

-- !  <a>  [a]  mX.  nX.
abbrev pub prefix_signs : Prefix → List ℕ
prefix_signs Not = 33 ∷ []
prefix_signs (Diamond a) = 60 ∷ action_sign a ∷ 62 ∷ []
prefix_signs (Box a) = 91 ∷ action_sign a ∷ 93 ∷ []
prefix_signs (Least x) = 109 ∷ variable_sign x ∷ 46 ∷ []
prefix_signs (Greatest x) = 110 ∷ variable_sign x ∷ 46 ∷ []

-- &  |
abbrev pub binary_sign : Binary → ℕ
binary_sign And = 38
binary_sign Or = 124

-- a binary formula stands in brackets, and nothing else does
abbrev pub text_of : Formula → List ℕ
text_of (leaf l) = leaf_sign l ∷ []
text_of (prefix o f) = prefix_signs o ++ text_of f
text_of (binary o f g) = 40 ∷ (text_of f ++ (binary_sign o ∷ (text_of g ++ (41 ∷ []))))

-- the text is that of the formula, which names only actions and lamps that have letters
pub record Reads (t : List ℕ) (f : Formula) : Type 0 where
  pub spelled : text_of f ≡ t
  pub lettered : within_letters 8 8 f ≡ true
