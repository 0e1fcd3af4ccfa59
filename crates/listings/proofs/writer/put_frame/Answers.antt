use Rattle.listings.proofs.Writing.{writes_then}
use Rattle.listings.proofs.writer.put_frame.Goals as goal

pub returns : goal.returns
returns c =
    writes_then c.put_line.ensures
    (writes_then (rw c.sizes.ensures at c.put_sizes.ensures)
    (writes_then c.put_line-2.ensures
    (writes_then c.put_moves.ensures (writes_then c.put_line-3.ensures c.put_lights.ensures))))
