use Rattle.std.proofs.Common.{◌≡◌, ℕ, ◌&&◌, nat_lt}
use Rattle.sets.specs.Sets.{has}
use Rattle.systems.specs.Words.{possible, certain}
use Rattle.frames.proofs.load.Small.targets.Given as goal

abbrev pub invariant-loop-to : goal.invariant-loop-to
invariant-loop-to g l = record {
  may : (t : ℕ) → has l.targets.may t ≡ (nat_lt t l.to && possible ((g.S.System.meaning l.self.system.now).kind l.from l.action t));
  must : (t : ℕ) → has l.targets.must t ≡ (nat_lt t l.to && certain ((g.S.System.meaning l.self.system.now).kind l.from l.action t));
}
