-- A formula among nodes, and what it is made of.
use Rattle.std.specs.Prelude.{◌≡◌, ◌<◌}
use Rattle.std.specs.Option.{unwrap_or}
use Rattle.calculus.specs.Formula.{Formula, leaf, prefix, binary}
use Rattle.calculus.specs.declared.syntax.Leaf.TheVariants.{True}
use Rattle.formulas.specs.declared.subformula.Subformula.{Subformula}
use Rattle.formulas.specs.declared.subformula.Shape.{Shape}
use Rattle.formulas.specs.declared.subformula.Shape.TheVariants.{Leaf, Prefix, Binary}
use Rattle.formulas.specs.declared.node.Node.{Node}
use Rattle.formulas.specs.declared.node.Node.TheVariants.{Leaf as Sole, Prefix as Operator, Binary as Fork}
use Rattle.formulas.specs.Nodes.{formula_at}

-- the formula that a view shows: its node stands for one
abbrev pub formula_of : Subformula → Formula
formula_of s = unwrap_or (formula_at s.nodes.now s.at) (leaf True)

-- the node that names these parts
abbrev pub node_of : Shape → Node
node_of (Leaf l) = Sole l
node_of (Prefix p f) = Operator p f.at
node_of (Binary o f g) = Fork o f.at g.at

-- the part stands among the same nodes, at an earlier place
abbrev pub Part : Subformula → Subformula → Type 0
Part s p = (p.nodes.now ≡ s.nodes.now) × (p.at < s.at)

-- what the formula is made of
abbrev pub Shaped : Subformula → Shape → Type 0
Shaped s (Leaf l) = formula_of s ≡ leaf l
Shaped s (Prefix p f) = (formula_of s ≡ prefix p (formula_of f)) × Part s f
Shaped s (Binary o f g) = (formula_of s ≡ binary o (formula_of f) (formula_of g)) × Part s f × Part s g
