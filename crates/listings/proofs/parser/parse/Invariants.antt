use Rattle.std.proofs.Common.{◌+◌, ◌≤◌, length}
use Rattle.text.specs.Lines.{lines}
use Rattle.listings.specs.Runs.{Judged, Verdict}
use Rattle.listings.proofs.parser.parse.Given as goal

-- what is judged of the lines that are left is judged of the whole text
abbrev pub invariant-loop-rest : goal.invariant-loop-rest
invariant-loop-rest g l =
    let judged = Judged g.P.LineParser.takes g.P.LineParser.complete in
    record {
      small : l.number + length l.rest ≤ length l.text + 1;
      judged : (q : _) (v : Verdict) → judged l.number (lines l.rest) l.parser q v → judged 1 (lines l.text) l.fn.parser q v;
    }

abbrev pub decreases-loop-rest : goal.decreases-loop-rest
decreases-loop-rest g l = length l.rest
