use Rattle.std.proofs.Common.{Ok, Err, sym, ap, ◌∙◌, subst, add-one}
use Rattle.std.proofs.lemmas.Result.{err_from_is_err_and}
use Rattle.formulas.specs.Readings.{Accepted, Refused}
use Rattle.frames.specs.Frames.{meaning_of, draft_meaning}
use Rattle.frames.specs.declared.frame.Frame.{Frame}
use Rattle.systems.specs.declared.places.Sizes.{Sizes}
use Rattle.questions.specs.Takes.{Asked, Counted, asked, too_many, refused}
use Rattle.questions.proofs.asks.ask.Goals as goal

pub returns-in_err-read : goal.returns-in_err-read
returns-in_err-read c n =
    let same = c.sizes-sizes.ensures ∙ ap (λ (f : Frame). (meaning_of f).sizes) c.frame.ensures in
    let e = c.in_err-read.field-0.0 in
    let r = err_from_is_err_and c.from_residual.result c.from_residual.ensures.1 in
    let no-reading = subst (λ (z : Sizes). Refused z.actions z.lamps c.args.line.now e) same c.in_err-read.ensures in
    subst (λ v. Counted (draft_meaning c.args.draft.now) n c.args.line.now c.args.count v) (sym (r.1 ∙ ap Err r.2)) (refused no-reading)

pub returns-then-count-lt-MOST : goal.returns-then-count-lt-MOST
returns-then-count-lt-MOST c n =
    let same = c.sizes-sizes.ensures ∙ ap (λ (f : Frame). (meaning_of f).sizes) c.frame.ensures in
    let read = c.in_ok-read.ensures in
    let good = subst (λ (z : Sizes). Accepted z.actions z.lamps c.args.line.now read.0) same read.2 in
    subst (λ k. Asked (draft_meaning c.args.draft.now) n c.args.line.now c.args.count k (Ok tt)) (sym (add-one c.args.count)) (asked read.0 good c.if-count-lt-MOST.true)

pub returns-else-count-lt-MOST : goal.returns-else-count-lt-MOST
returns-else-count-lt-MOST c n =
    let same = c.sizes-sizes.ensures ∙ ap (λ (f : Frame). (meaning_of f).sizes) c.frame.ensures in
    let read = c.in_ok-read.ensures in
    too_many read.0 (subst (λ (z : Sizes). Accepted z.actions z.lamps c.args.line.now read.0) same read.2) c.if-count-lt-MOST.false
