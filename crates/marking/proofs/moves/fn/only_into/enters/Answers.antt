use Rattle.marking.proofs.Entered.{frame_within}
use Rattle.marking.proofs.moves.fn.only_into.enters.Goals as goal

pub returns : goal.returns
returns c = frame_within c.captures.frame.now c.captures.modality c.captures.action c.args.state _ _ _ c.moves_from.ensures c.is_within.ensures
