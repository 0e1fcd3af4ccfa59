use Rattle.std.proofs.Common.{refl, arith}
use Rattle.formulas.proofs.Tables.{fork_part}
use Rattle.formulas.proofs.subformula.Subformula.shape.Goals as goal

pub returns-in-Binary-clause-parts : goal.returns-in-Binary-clause-parts
returns-in-Binary-clause-parts c =
    let part = fork_part c.args.self.nodes.now c.args.self.at c.args.self.formed c.in-Binary.o c.in-Binary.left c.in-Binary.right c.in-Binary.is in
    (part.4, (refl, part.0), (refl, part.1))

pub invariant_of-result-in-Binary-2 : goal.invariant_of-result-in-Binary-2
invariant_of-result-in-Binary-2 c =
    let part = fork_part c.args.self.nodes.now c.args.self.at c.args.self.formed c.in-Binary.o c.in-Binary.left c.in-Binary.right c.in-Binary.is in
    record { inside = omega arith; formed = part.3 }
