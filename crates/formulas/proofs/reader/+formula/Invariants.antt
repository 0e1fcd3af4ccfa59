use Rattle.std.proofs.Common.{◌-◌, length}
use Rattle.formulas.proofs.reader.+formula.Given as goal

-- what is left of the text
abbrev pub decreases-formula : goal.decreases-formula
decreases-formula l = length l.text.now - l.place
