use Rattle.std.proofs.Common.{◌≡◌, false}
use Rattle.sets.specs.Sets.{width}
use Rattle.sets.proofs.Words.{has_zero}
use Rattle.frames.specs.Grids.{blank_row, row_may, row_must}
use Rattle.frames.proofs.Tables.{read_copies}
use Rattle.frames.proofs.grid.Grid.blank.Goals as goal

pub returns-clause-no_may : goal.returns-clause-no_may
returns-clause-no_may c s a t = read_copies (λ r. row_may r a t ≡ false) _ blank_row width s (c.blank.ensures.no_may a t) (has_zero t)

pub returns-clause-no_must : goal.returns-clause-no_must
returns-clause-no_must c s a t = read_copies (λ r. row_must r a t ≡ false) _ blank_row width s (c.blank.ensures.no_must a t) (has_zero t)
