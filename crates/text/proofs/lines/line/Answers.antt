use Rattle.std.proofs.Common.{◌≡◌, ◌+◌, ◌-◌, arith}
use Rattle.text.proofs.Feeds.{line_first}
use Rattle.text.proofs.lines.line.Goals as goal

pub returns : goal.returns
returns c =
    let one : c.args.number + 1 - c.loop.counter ≡ 1 = omega arith in
    grind (arith, line_first, one)
