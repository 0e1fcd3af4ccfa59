-- When nodes make a closed formula.
use Rattle.std.specs.Prelude.{◌≡◌, ℕ, Bool, true, false, List, is_some, Some, None, Option}
use Rattle.calculus.specs.Formula.{Formula, closed}
use Rattle.formulas.specs.declared.node.Node.{Node}
use Rattle.formulas.specs.Nodes.{formula_at}

-- the node stands for a formula
abbrev pub Formed : List Node → ℕ → Type 0
Formed ns i = is_some (formula_at ns i) ≡ true

abbrev pub closed_some : Option Formula → Bool
closed_some None = false
closed_some (Some f) = closed f

abbrev pub sentence_at : List Node → ℕ → Bool
sentence_at ns i = closed_some (formula_at ns i)
