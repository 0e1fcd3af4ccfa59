use Rattle.std.proofs.Common.{◌==◌, rules, tests}
use Rattle.std.proofs.lemmas.Iterator.{YieldsList-from_slice}
use Rattle.std.proofs.lemmas.Iterator.Search.{position_from_yields_List}
use Rattle.text.proofs.Before.{place_before}
use Rattle.text.proofs.fields.place_of.Goals as goal

pub returns : goal.returns
returns c =
    let xs = c.args.text.now in
    rw (position_from_yields_List (λ x. x == c.args.byte) _ _ c.position.result c.position.ensures.ran (YieldsList-from_slice xs cc) (λ x b q k. search (rules, tests))) (place_before c.args.byte xs)
