use Rattle.std.proofs.Common.{◌≡◌, true, not, ◌&&◌, ◌||◌}
use Rattle.systems.specs.Bounded.{any, all}
use Rattle.systems.specs.Words.{is_on, is_off}
use Rattle.folds.specs.Folds.{member}
use Rattle.folds.proofs.members.Members.light_of.Given as goal

abbrev pub invariant-loop-state : goal.invariant-loop-state
invariant-loop-state g l =
    let M = g.S.System.meaning l.self.below.system.now in
    let cs = l.self.classes.now.of in
    record {
      members : l.members ≡ any l.state (λ s. member M cs l.at.state s && true);
      on : l.on ≡ all l.state (λ s. not (member M cs l.at.state s) || is_on (M.light s l.at.lamp));
      off : l.off ≡ all l.state (λ s. not (member M cs l.at.state s) || is_off (M.light s l.at.lamp));
    }
