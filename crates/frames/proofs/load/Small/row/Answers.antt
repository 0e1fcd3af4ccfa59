use Rattle.std.proofs.Common.{rules, arith}
use Rattle.std.proofs.lemmas.Bool.Decides.{nat_tests}
use Rattle.sets.proofs.Words.{has_zero}
use Rattle.frames.specs.Grids.{no_targets}
use Rattle.frames.specs.Loads.{HoldsMoves}
use Rattle.frames.proofs.Tables.{made}
use Rattle.frames.proofs.load.Small.row.Goals as goal

pub returns : goal.returns
returns g c = record {
  each = made c.from_fn.ensures.items (HoldsMoves c.args.self.now.bounds.sizes (g.S.System.meaning c.args.self.now.system.now) c.args.from) no_targets (λ a T q k. search rules) (λ k le. grind (arith, nat_tests, has_zero));
}
