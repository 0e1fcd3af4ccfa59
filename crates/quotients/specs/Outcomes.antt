-- What a whole text comes to, line by line, as a step for each line says.
use Rattle.std.specs.Prelude.{ℕ, Bool, List, Result}
use Rattle.listings.specs.Runs.{text_read}
use Rattle.listings.specs.declared.rejection.Rejection.{Rejection}
use Rattle.quotients.specs.Phases.{may_end}
use Rattle.quotients.specs.Steps.{Progress, step}

-- how far a text was read to its end, or why it is refused, and at which line
abbrev pub Outcome : Type 0
Outcome = Result Progress Rejection

-- where a text may end
abbrev pub complete : Progress → Bool
complete p = may_end p.phase

-- what a text comes to, where so much was read before it
abbrev pub reading : Progress → List ℕ → Outcome
reading p t = text_read step complete p t
