use Rattle.std.proofs.Common.{◌≡◌, not, ◌&&◌, ◌||◌}
use Rattle.systems.specs.Bounded.{any, all}
use Rattle.systems.specs.Words.{possible, certain}
use Rattle.folds.specs.Folds.{member, enters}
use Rattle.folds.proofs.members.Members.kind_between.Given as goal

abbrev pub invariant-loop-state : goal.invariant-loop-state
invariant-loop-state g l =
    let M = g.S.System.meaning l.self.below.system.now in
    let cs = l.self.classes.now.of in
    (l.some ≡ any l.state (λ s. member M cs l.at.from s && enters possible M cs s l.at.action l.at.to))
    × (l.every ≡ all l.state (λ s. not (member M cs l.at.from s) || enters certain M cs s l.at.action l.at.to))
