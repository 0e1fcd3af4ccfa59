-- The line looked for is the line of the number that is left, in what is left of the text.
use Rattle.std.proofs.Common.{◌≡◌, ◌+◌, ◌-◌}
use Rattle.text.specs.Lines.{lines, line_at}
use Rattle.text.proofs.lines.line.Given as goal

abbrev pub invariant-loop : goal.invariant-loop
invariant-loop l = line_at (lines l.rest) (l.number + 1 - l.counter) ≡ line_at (lines l.text) l.number
