use Rattle.frames.specs.Grids.{blank_row}
use Rattle.frames.specs.Loads.{HoldsRow}
use Rattle.frames.proofs.Tables.{Filled}
use Rattle.frames.proofs.load.Small.fill.Given as goal

-- the rows so far are taken over, and the others are blank still
abbrev pub invariant-loop-from : goal.invariant-loop-from
invariant-loop-from g l =
    Filled (HoldsRow l.self.bounds.sizes (g.S.System.meaning l.self.system.now)) blank_row l.initial.grid.rows l.grid.rows l.from
