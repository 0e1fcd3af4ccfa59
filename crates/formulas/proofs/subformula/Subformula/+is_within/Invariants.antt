use Rattle.formulas.proofs.subformula.Subformula.+is_within.Given as goal

-- the parts of a formula stand before it
abbrev pub decreases-is_within : goal.decreases-is_within
decreases-is_within l = l.self.at
