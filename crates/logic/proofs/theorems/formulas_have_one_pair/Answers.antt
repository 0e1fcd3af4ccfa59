use Rattle.logic.proofs.Questions.{one_pair}
use Rattle.logic.proofs.theorems.formulas_have_one_pair.Goals as goal

pub returns : goal.returns
returns c = one_pair
