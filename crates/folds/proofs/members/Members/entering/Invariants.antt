use Rattle.std.proofs.Common.{◌≡◌, ◌&&◌}
use Rattle.systems.specs.Bounded.{any}
use Rattle.systems.specs.Words.{possible, certain}
use Rattle.folds.specs.Folds.{member}
use Rattle.folds.proofs.members.Members.entering.Given as goal

abbrev pub invariant-loop-to : goal.invariant-loop-to
invariant-loop-to g l =
    let M = g.S.System.meaning l.self.below.system.now in
    let cs = l.self.classes.now.of in
    (l.may ≡ any l.to (λ t. possible (M.kind l.at.from l.at.action t) && member M cs l.at.to t))
    × (l.must ≡ any l.to (λ t. certain (M.kind l.at.from l.at.action t) && member M cs l.at.to t))
