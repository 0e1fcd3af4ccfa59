use Rattle.std.proofs.Common.{Err, sym, ap, ◌∙◌, subst}
use Rattle.std.proofs.lemmas.Result.{err_from_is_err_and}
use Rattle.frames.specs.Frames.{meaning_of}
use Rattle.formulas.specs.Readings.{Accepted, Refused}
use Rattle.systems.specs.declared.places.Sizes.{Sizes}
use Rattle.cases.specs.Marks.{SetsAnswer, found, refused}
use Rattle.cases.proofs.case.Case.sets.Goals as goal

pub returns : goal.returns
returns g c =
    let read = c.in_ok-sentence.ensures in
    found read.0 c.evaluate.result (subst (λ (z : Sizes). Accepted z.actions z.lamps c.args.formula.now read.0) c.sizes-sizes.ensures read.2) (c.evaluate.ensures read.0 read.1)

pub returns-in_err-sentence : goal.returns-in_err-sentence
returns-in_err-sentence g c =
    let e = c.in_err-sentence.field-0.0 in
    let r = err_from_is_err_and c.from_residual.result c.from_residual.ensures.1 in
    subst (SetsAnswer (meaning_of c.args.self.now.frame) c.args.formula.now) (sym (r.1 ∙ ap Err r.2)) (refused e (subst (λ (z : Sizes). Refused z.actions z.lamps c.args.formula.now e) c.sizes-sizes.ensures c.in_err-sentence.ensures))
