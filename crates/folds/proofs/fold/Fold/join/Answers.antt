use Rattle.std.proofs.Common.{◌≡◌, true, length, arith}
use Rattle.std.proofs.lemmas.Grind.{common_steps}
use Rattle.systems.specs.Meaning.{states}
use Rattle.systems.specs.declared.refusal.Refusal.TheVariants.{Rows}
use Rattle.folds.specs.Folds.{is_map}
use Rattle.folds.proofs.Joined.{faithful_refused, faithful_joined}
use Rattle.folds.proofs.fold.Fold.join.Goals as goal

pub returns-then-rows-members-clause-faithful : goal.returns-then-rows-members-clause-faithful
returns-then-rows-members-clause-faithful g c =
    faithful_refused _ _ _ Rows c.args.rows.now (g.met.S.System.lawful c.args.self.now.system)

pub returns-clause-faithful : goal.returns-clause-faithful
returns-clause-faithful g c =
    let f = c.args.self.now in
    let M = g.S.System.meaning f.system in
    let mapped : is_map M f.classes.of f.count ≡ true = grind (arith, common_steps) in
    let measured : c.in_ok-members.members.below.sizes.states ≡ states M = grind (arith, common_steps) in
    let long : length c.fill.new.rows ≡ states M = omega arith in
    faithful_joined M f.classes.of f.count c.fill.new.rows (g.met.S.System.lawful f.system) mapped long c.fill.ensures
