-- What a text says as one part of a paper.
use Rattle.std.specs.Prelude.{Bool, List, ℕ, Ok, Err, Result}
use Rattle.systems.specs.Making.{Making}
use Rattle.systems.specs.Meaning.{Meaning}
use Rattle.listings.specs.Parts.{Step, step, may_end}
use Rattle.listings.specs.Runs.{text_read}
use Rattle.listings.specs.declared.part.Stage.{Stage}
use Rattle.listings.specs.declared.part.Stage.TheVariants.{SizesNames}
use Rattle.listings.specs.declared.rejection.Rejection.{Rejection}

-- how far a part is read: what its next line is, and what is made so far
abbrev pub Progress : Type 0
Progress = Stage × Making

abbrev pub line_step : Progress → List ℕ → Step
line_step p l = step p.0 p.1 l

abbrev pub complete : Progress → Bool
complete p = may_end p.0

-- what is made of a text, or why it is refused, and at which line
abbrev pub Outcome : Type 0
Outcome = Result Making Rejection

abbrev pub made_of : Result Progress Rejection → Outcome
made_of (Ok p) = Ok p.1
made_of (Err e) = Err e

abbrev pub reading : Making → List ℕ → Outcome
reading m t = made_of (text_read line_step complete (SizesNames, m) t)

-- what the text describes, or what was there before
abbrev pub system_after : Outcome → Meaning → Meaning
system_after (Ok m) old = m.system
system_after (Err e) old = old
