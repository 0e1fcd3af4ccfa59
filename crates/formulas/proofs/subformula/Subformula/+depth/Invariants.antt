use Rattle.formulas.proofs.subformula.Subformula.+depth.Given as goal

-- the parts of a formula stand before it
abbrev pub decreases-depth : goal.decreases-depth
decreases-depth l = l.self.at
