use Rattle.std.proofs.Common.{rules, arith}
use Rattle.std.proofs.lemmas.Bool.Decides.{nat_tests}
use Rattle.sets.proofs.Words.{has_zero}
use Rattle.frames.specs.Grids.{no_lights}
use Rattle.frames.specs.Loads.{HoldsLights}
use Rattle.frames.proofs.Tables.{made, written, all_filled}
use Rattle.frames.proofs.load.Small.fill.Goals as goal

pub loop-from-preserved : goal.loop-from-preserved
loop-from-preserved g c = written c.loop-from.invariant c.row.result (search rules) c.row.ensures

pub returns-clause-rows : goal.returns-clause-rows
returns-clause-rows g c =
    let none = c.requires in
    all_filled c.loop-from.invariant
    (λ s le. record {
      each = λ a. record {
        may = λ t. grind (arith, nat_tests, none.no_may s a t);
        must = λ t. grind (arith, nat_tests, none.no_must s a t);
      };
    })

pub returns-clause-lamps : goal.returns-clause-lamps
returns-clause-lamps g c =
    let small = c.args.self.now in
    let M = g.S.System.meaning small.system.now in
    made c.from_fn-grid.ensures.items (HoldsLights small.bounds.sizes M) no_lights (λ l L q k. search rules) (λ k le. grind (arith, nat_tests, has_zero))
