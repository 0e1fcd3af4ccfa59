use Rattle.std.proofs.Common.{◌≡◌, ℕ, get_or, unwrap_or, None}
use Rattle.frames.proofs.Tables.{Filled}
use Rattle.quotients.proofs.map.ClassMap.to_classes.Given as goal

-- the classes so far
abbrev pub invariant-loop-state : goal.invariant-loop-state
invariant-loop-state l =
    Filled (λ (k x : ℕ). x ≡ unwrap_or (get_or l.self.classes k None) 0) 0 l.initial.of l.of l.state
