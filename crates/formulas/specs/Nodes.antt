-- The formula that a list of nodes stands for.
use Rattle.std.specs.Prelude.{ℕ, zero, suc, cond, List, Some, None, Option, ◌==◌, slice_index_or}
use Rattle.std.specs.Option.{option_map}
use Rattle.calculus.specs.Formula.{Formula, leaf, prefix, binary}
use Rattle.calculus.specs.declared.syntax.Binary.{Binary}
use Rattle.calculus.specs.declared.syntax.Leaf.TheVariants.{True}
use Rattle.formulas.specs.declared.node.Node.{Node}
use Rattle.formulas.specs.declared.node.Node.TheVariants.{Leaf, Prefix, Binary as Fork}

abbrev pub joined : Binary → Option Formula → Option Formula → Option Formula
joined o None g = None
joined o (Some f) None = None
joined o (Some f) (Some g) = Some (binary o f g)

-- the formula of a node, where those of the nodes before it are given
abbrev pub built : Node → (ℕ → Option Formula) → Option Formula
built (Leaf l) below = Some (leaf l)
built (Prefix o f) below = option_map (prefix o) (below f)
built (Fork o f g) below = joined o (below f) (below g)

-- the formulas of the first n nodes: a node that names itself or a later one has none
abbrev pub formulas_below : List Node → ℕ → ℕ → Option Formula
formulas_below ns zero j = None
formulas_below ns (suc n) j = cond (j == n) (built (slice_index_or ns n (Leaf True)) (formulas_below ns n)) (formulas_below ns n j)

abbrev pub formula_at : List Node → ℕ → Option Formula
formula_at ns i = formulas_below ns (suc i) i
