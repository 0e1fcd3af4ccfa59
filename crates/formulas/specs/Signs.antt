-- What the bytes at a place of a text begin.
use Rattle.std.specs.Prelude.{ℕ, ◌+◌, ◌-◌, cond, ◌&&◌, List, Some, None, Option, ◌==◌, nat_le, slice_index}
use Rattle.std.specs.Option.{option_map, option_or}
use Rattle.calculus.specs.declared.syntax.Variable.{Variable}
use Rattle.calculus.specs.declared.syntax.Variable.TheVariants.{X, Y, Z}
use Rattle.calculus.specs.declared.syntax.Leaf.{Leaf}
use Rattle.calculus.specs.declared.syntax.Leaf.TheVariants.{True, False, Lamp, Var}
use Rattle.calculus.specs.declared.syntax.Prefix.{Prefix}
use Rattle.calculus.specs.declared.syntax.Prefix.TheVariants.{Not, Diamond, Box, Least, Greatest}
use Rattle.calculus.specs.declared.syntax.Binary.{Binary}
use Rattle.calculus.specs.declared.syntax.Binary.TheVariants.{And, Or}
use Rattle.formulas.specs.declared.signs.Start.{Start}
use Rattle.formulas.specs.declared.signs.Start.TheVariants.{Atom, Operator, Open}

abbrev pub variable_of : ℕ → Option Variable
variable_of b = cond (b == 88) (Some X) (cond (b == 89) (Some Y) (cond (b == 90) (Some Z) None))

-- the number of a letter among the eight from a first one on: actions from a, lamps from p
abbrev pub letter_of : ℕ → ℕ → Option ℕ
letter_of first b = cond (nat_le first b && nat_le b (first + 7)) (Some (b - first)) None

abbrev pub action_of : ℕ → Option ℕ
action_of = letter_of 97

abbrev pub lamp_of : ℕ → Option ℕ
lamp_of = letter_of 112

abbrev pub leaf_of : ℕ → Option Leaf
leaf_of b = cond (b == 84) (Some True) (cond (b == 70) (Some False) (option_or (option_map Lamp (lamp_of b)) (option_map Var (variable_of b))))

-- a prefix of three bytes, or the one byte !
abbrev pub prefix_of : ℕ → ℕ → ℕ → Option Prefix
prefix_of a b c =
    cond (a == 33) (Some Not) (cond (a == 60 && c == 62) (option_map Diamond (action_of b)) (cond (a == 91 && c == 93) (option_map Box (action_of b)) (cond (a == 109 && c == 46) (option_map Least (variable_of b)) (cond (a == 110 && c == 46) (option_map Greatest (variable_of b)) None))))

abbrev pub binary_of : ℕ → Option Binary
binary_of b = cond (b == 38) (Some And) (cond (b == 124) (Some Or) None)

abbrev pub start_of : ℕ → ℕ → ℕ → Option Start
start_of a b c = cond (a == 40) (Some Open) (option_or (option_map Atom (leaf_of a)) (option_map Operator (prefix_of a b c)))

-- past the end of a text there is the byte 0, which no formula has
abbrev pub starts : List ℕ → ℕ → Option Start
starts t i = start_of (slice_index t i) (slice_index t (i + 1)) (slice_index t (i + 2))
