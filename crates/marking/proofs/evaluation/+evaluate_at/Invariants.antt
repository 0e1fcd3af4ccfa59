use Rattle.formulas.specs.Shapes.{formula_of}
use Rattle.frames.specs.Frames.{meaning_of}
use Rattle.marking.proofs.Binders.{direction}
use Rattle.marking.proofs.Iterated.{Reached, lacks}
use Rattle.marking.proofs.evaluation.+evaluate_at.Given as goal

-- the parts of a formula stand before it
abbrev pub decreases-evaluate_at : goal.decreases-evaluate_at
decreases-evaluate_at l = l.formula.at

-- the pair is on the way to the fixed point
abbrev pub invariant-loop-body : goal.invariant-loop-body
invariant-loop-body l = Reached (direction (formula_of l.formula)) (meaning_of l.frame) (formula_of l.body) l.values l.v l.pair

-- what the pair still lacks
abbrev pub decreases-loop-body : goal.decreases-loop-body
decreases-loop-body l = lacks (direction (formula_of l.formula)) (meaning_of l.frame) l.pair
