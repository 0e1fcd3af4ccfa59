use Rattle.formulas.proofs.subformula.Subformula.+is_closed_under.Given as goal

-- the parts of a formula stand before it
abbrev pub decreases-is_closed_under : goal.decreases-is_closed_under
decreases-is_closed_under l = l.self.at
