use Rattle.std.proofs.Common.{◌≡◌, ℕ, List, Ok, Err, Result, refl, ap, ◌∙◌}
use Rattle.std.proofs.lemmas.Result.{err_from_is_err_and}
use Rattle.frames.specs.Drafts.{drafting}
use Rattle.frames.specs.Frames.{draft_meaning}
use Rattle.frames.specs.declared.draft.Draft.{Draft}
use Rattle.systems.specs.Meaning.{Meaning, blank, first_sizes}
use Rattle.listings.specs.Readings.{Progress, line_step, complete, made_of, system_after}
use Rattle.listings.specs.Runs.{Verdict, verdict_of, text_read}
use Rattle.listings.specs.declared.part.Stage.TheVariants.{SizesNames}
use Rattle.listings.specs.declared.parts.PartParser.{PartParser}
use Rattle.listings.specs.declared.rejection.Rejection.{Rejection}
use Rattle.listings.proofs.Outcomes.{Fits, run_fits}
use Rattle.listings.proofs.reader.read.Goals as goal

-- how far a parser of a draft has read
abbrev progress : PartParser Draft → Progress
progress p = (p.stage, drafting (draft_meaning p.builder))

-- what is left of a draft that meant `old`, by what is answered
abbrev left : Verdict → Progress → Meaning → Meaning
left (Ok u) q old = q.1.system
left (Err e) q old = old

fits : {v : Verdict} (q : Progress) (o : Result Progress Rejection) (old : Meaning) → Fits v q o → (v ≡ verdict_of (made_of o)) × (left v q old ≡ system_after (made_of o) old)
fits q (Ok x) old fit = (fit.0, rw (fit.0, fit.1) refl)
fits q (Err e) old fit = (fit, rw fit refl)

-- what is read of a text
abbrev outcome : List ℕ → Result Progress Rejection
outcome t = text_read line_step complete (SizesNames, drafting (blank first_sizes)) t

pub returns-in_err-parse : goal.returns-in_err-parse
returns-in_err-parse c =
    let r = err_from_is_err_and c.from_residual.result c.from_residual.ensures.1 in
    let f = fits (progress c.parse.new.parser) (outcome c.args.text.now) (draft_meaning c.args.draft.now) (rw c.new.ensures at (run_fits line_step complete progress c.in_err-parse.ensures)) in
    record { answer = r.1 ∙ ap Err r.2 ∙ f.0; after = f.1 }

pub returns : goal.returns
returns c =
    let f = fits (progress c.parse.new.parser) (outcome c.args.text.now) (draft_meaning c.args.draft.now) (rw c.new.ensures at (run_fits line_step complete progress c.in_ok-parse.ensures)) in
    record { answer = f.0; after = f.1 }
