use Rattle.std.proofs.Common.{append_assoc}
use Rattle.listings.proofs.Writing.{writes_then}
use Rattle.listings.proofs.writes.put_move_entry.Goals as goal

pub returns : goal.returns
returns c =
    simp append_assoc (simp (append_assoc, c.modality_word.ensures) at (writes_then (writes_then c.put_letter.ensures c.put_field.ensures) c.put_line.ensures))
