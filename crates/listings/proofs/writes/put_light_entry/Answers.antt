use Rattle.std.proofs.Common.{append_assoc}
use Rattle.listings.proofs.Writing.{writes_then}
use Rattle.listings.proofs.writes.put_light_entry.Goals as goal

pub returns : goal.returns
returns c =
    simp append_assoc (simp (append_assoc, c.setting_word.ensures) at (writes_then c.put_letter.ensures c.put_line.ensures))
