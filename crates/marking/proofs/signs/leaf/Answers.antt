use Rattle.frames.specs.Frames.{meaning_of}
use Rattle.logic.proofs.Pairs.{same_refl}
use Rattle.marking.specs.Values.{values_of}
use Rattle.systems.specs.Meaning.{states}
use Rattle.marking.proofs.signs.leaf.Goals as goal

pub returns-in-Var : goal.returns-in-Var
returns-in-Var c = rw (c.in-Var.is, c.at.ensures) (record { same = same_refl (states (meaning_of c.args.frame.now)) (values_of c.args.values c.in-Var.v); only = c.requires c.in-Var.v })
