use Rattle.std.proofs.Common.{◌<◌, ◌≤◌, Err, sym, ap, ◌∙◌, subst}
use Rattle.std.proofs.lemmas.Result.{err_from_is_err_and}
use Rattle.frames.specs.Frames.{meaning_of}
use Rattle.systems.specs.declared.places.Sizes.{Sizes}
use Rattle.cases.specs.Marks.{MarkAnswer, no_state}
use Rattle.cases.proofs.Answers.{then_marked}
use Rattle.cases.proofs.case.Case.mark.Goals as goal

pub returns-then-state-sizes : goal.returns-then-state-sizes
returns-then-state-sizes g c = no_state (subst (λ (z : Sizes). z.states ≤ c.args.state) c.sizes.ensures c.if-state-sizes.true)

pub returns : goal.returns
returns g c =
    let within = subst (λ (z : Sizes). c.args.state < z.states) c.sizes.ensures c.if-state-sizes.false in
    then_marked (meaning_of c.args.self.now.frame) c.args.state c.args.formula.now within c.in_ok-sets.ensures c.mark_at.result c.mark_at.ensures

pub returns-in_err-sets : goal.returns-in_err-sets
returns-in_err-sets g c =
    let M = meaning_of c.args.self.now.frame in
    let within = subst (λ (z : Sizes). c.args.state < z.states) c.sizes.ensures c.if-state-sizes.false in
    let r = err_from_is_err_and c.from_residual.result c.from_residual.ensures.1 in
    subst (MarkAnswer M c.args.state c.args.formula.now) (sym (r.1 ∙ ap Err r.2)) (then_marked M c.args.state c.args.formula.now within c.in_err-sets.ensures)
