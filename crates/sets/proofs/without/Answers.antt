use Rattle.std.proofs.Common.{not, ◌&&◌, ◌||◌, eqb, ltb, ap, ◌∙◌, arith}
use Rattle.sets.specs.Sets.{has}
use Rattle.sets.proofs.Words.{has_without}
use Rattle.sets.proofs.without.Goals as goal

pub returns : goal.returns
returns c i =
    let set = c.args.set in
    let j = c.args.j in
    c.minus.ensures i ∙ ap (λ b. has set i && not b) (c.with.ensures i ∙ ap (λ b. b || (eqb i j && ltb i 64)) (c.empty.ensures i)) ∙ has_without 64 set j i (omega arith)
