use Rattle.std.proofs.Common.{◌≡◌, drop}
use Rattle.tables.specs.Entries.{first}
use Rattle.tables.proofs.lookup.first.Given as goal

-- what is left of the entries still decides
abbrev pub invariant-loop-e : goal.invariant-loop-e
invariant-loop-e g l = first g.P.PartialEq.eq (drop l.e-index l.entries) l.at ≡ first g.P.PartialEq.eq l.entries l.at
