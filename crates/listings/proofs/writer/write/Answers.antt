use Rattle.std.proofs.Common.{length, arith}
use Rattle.std.proofs.lemmas.Bool.{le-ltb}
use Rattle.frames.specs.Frames.{draft_meaning}
use Rattle.listings.specs.Rooms.{room_of}
use Rattle.listings.proofs.writer.write.Goals as goal

pub returns-clause-after : goal.returns-clause-after
returns-clause-after c =
    let room = le-ltb (length c.args.buffer.now) (room_of (draft_meaning c.args.draft.now)) (omega (arith, c.room.ensures)) in
    rw (c.put_text.ensures.after, c.frame.ensures, room)
