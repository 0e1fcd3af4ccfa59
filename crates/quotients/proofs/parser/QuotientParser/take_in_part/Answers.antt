use Rattle.std.proofs.Common.{◌≡◌, Bool, Ok, Err, cond, false, sym}
use Rattle.listings.specs.Parts.{Step as PartStep, step as step_of_part, stage_after, made_after}
use Rattle.listings.specs.Runs.{Step, next_of}
use Rattle.systems.specs.Making.{Making}
use Rattle.systems.specs.declared.refusal.Refusal.{Refusal}
use Rattle.tables.specs.Tables.{making_of}
use Rattle.quotients.specs.Progress.{progress_of}
use Rattle.quotients.specs.Steps.{Progress, carried}
use Rattle.quotients.proofs.parser.QuotientParser.take_in_part.Goals as goal

-- a line that the part refuses changes nothing
refused_leaves : (s : PartStep) (ends : Bool) (p : Progress) (o : Step Progress) (made : Making) (e : Refusal) → false ≡ ends → Err e ≡ stage_after s → made ≡ made_after s p.made → record { phase = p.phase; made = made; map = p.map } ≡ next_of (cond ends o (carried p.map p.made s)) p
refused_leaves (Ok x) ends p o made e not_ends is became = absurd (let z : Ok x.0 ≡ Err e = sym is in cc)
refused_leaves (Err f) ends p o made e not_ends is became = rw (← not_ends, became)

pub returns-in_err-take_line-clause-after : goal.returns-in_err-take_line-clause-after
returns-in_err-take_line-clause-after c =
    let p = progress_of c.args.self.now in
    refused_leaves (step_of_part c.args.stage p.made c.args.line.now) _ p _ (making_of c.take_line.new.builder) c.in_err-take_line.field-0.0 c.if-ends_part.ensures c.in_err-take_line.ensures.answer c.take_line.ensures.after
