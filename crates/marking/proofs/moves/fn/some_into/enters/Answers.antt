use Rattle.marking.proofs.Entered.{frame_meets}
use Rattle.marking.proofs.moves.fn.some_into.enters.Goals as goal

pub returns : goal.returns
returns c = frame_meets c.captures.frame.now c.captures.modality c.captures.action c.args.state _ _ _ c.moves_from.ensures c.meets.ensures
