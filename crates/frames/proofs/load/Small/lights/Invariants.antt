use Rattle.std.proofs.Common.{◌≡◌, ℕ, ◌&&◌, nat_lt}
use Rattle.sets.specs.Sets.{has}
use Rattle.systems.specs.Words.{is_on, is_off}
use Rattle.frames.proofs.load.Small.lights.Given as goal

abbrev pub invariant-loop-state : goal.invariant-loop-state
invariant-loop-state g l = record {
  on : (s : ℕ) → has l.lights.on s ≡ (nat_lt s l.state && is_on ((g.S.System.meaning l.self.system.now).light s l.lamp));
  off : (s : ℕ) → has l.lights.off s ≡ (nat_lt s l.state && is_off ((g.S.System.meaning l.self.system.now).light s l.lamp));
}
