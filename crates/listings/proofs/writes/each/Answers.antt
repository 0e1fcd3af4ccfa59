use Rattle.std.proofs.Common.{add-one, arith}
use Rattle.listings.proofs.Writing.{writes_then}
use Rattle.listings.proofs.writes.each.Goals as goal

pub loop-i-preserved : goal.loop-i-preserved
loop-i-preserved g c f h =
    rw add-one (writes_then (c.loop-i.invariant f (λ i w w' lt post. h i w w' (omega arith) post)) (h c.loop-i.i _ _ (omega arith) c.write.ensures))
