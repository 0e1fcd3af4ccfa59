use Rattle.std.proofs.Common.{◌≡◌, Some, arith}
use Rattle.std.proofs.lemmas.Grind.{common_steps}
use Rattle.text.specs.Numbers.{numeral}
use Rattle.text.proofs.Numerals.{numeral_some, numeral_read}
use Rattle.text.proofs.numbers.number.Goals as goal

pub returns-clause-shown : goal.returns-clause-shown
returns-clause-shown c =
    let value : numeral c.args.text.now ≡ Some c.loop-byte.number = grind (arith, common_steps, numeral_read) in
    numeral_some _ _ value
