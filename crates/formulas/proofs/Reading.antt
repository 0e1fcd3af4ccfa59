-- What the steps of the reader come to.
use Rattle.formulas.proofs.Steps.{prefix_long, prefix_inside}
use Rattle.formulas.proofs.Refused.{nothing_unread, left_unread, sign_unread}
use Rattle.formulas.proofs.Made.{prefix_stands}

pub ruleset steps = (prefix_long, prefix_inside, nothing_unread, left_unread, sign_unread, prefix_stands)
