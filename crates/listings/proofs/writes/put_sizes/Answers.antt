use Rattle.std.proofs.Common.{append_assoc}
use Rattle.listings.proofs.Writing.{writes_then}
use Rattle.listings.proofs.writes.put_sizes.Goals as goal

pub returns : goal.returns
returns c =
    simp append_assoc (simp append_assoc at (writes_then (writes_then (writes_then c.put_field.ensures c.put_field-2.ensures) c.put_field-3.ensures) c.put_field-4.ensures))
