-- A part of a paper, read line by line into a system that is being made.
use Rattle.std.specs.Prelude.{ℕ, Bool, true, false, cond, List, Some, None, Ok, Err, Option, Result}
use Rattle.std.specs.Str.{bytes_eq}
use Rattle.systems.specs.Edits.{Answer}
use Rattle.systems.specs.Making.{Making, sized, sized_answer, moved, moved_answer, lit, lit_answer}
use Rattle.systems.specs.Words.{drawn, shown}
use Rattle.systems.specs.declared.places.Sizes.{Sizes}
use Rattle.systems.specs.declared.refusal.Refusal.{Refusal}
use Rattle.systems.specs.declared.refusal.Refusal.TheVariants.{Form}
use Rattle.listings.specs.Forms.{sizes_names, moves_names, lights_names, sizes_in, move_in, light_in}
use Rattle.systems.specs.Entries.{MoveEntry, LightEntry}
use Rattle.listings.specs.declared.part.Stage.{Stage}
use Rattle.listings.specs.declared.part.Stage.TheVariants.{SizesNames, Sizes as SizesValues, MovesNames, Moves, Lights}

-- what a line leads to: the next stage with what is made then, or a refusal
abbrev pub Step : Type 0
Step = Result (Stage × Making) Refusal

abbrev pub stage_after : Step → Result Stage Refusal
stage_after (Ok p) = Ok p.0
stage_after (Err e) = Err e

-- a refused line changes nothing
abbrev pub stage_then : Step → Stage → Stage
stage_then (Ok p) stage = p.0
stage_then (Err e) stage = stage

abbrev pub made_after : Step → Making → Making
made_after (Ok p) m = p.1
made_after (Err e) m = m

abbrev pub going : Answer → Stage → Making → Step
going (Ok u) stage m = Ok (stage, m)
going (Err e) stage m = Err e

-- a line of names
abbrev pub named : List ℕ → List ℕ → Stage → Making → Step
named names l stage m = cond (bytes_eq l names) (Ok (stage, m)) (Err Form)

-- a line of values, if it has the form of one
abbrev pub sizes_step : Making → Option Sizes → Step
sizes_step m None = Err Form
sizes_step m (Some z) = going (sized_answer m z) MovesNames (sized m z)

abbrev pub move_step : Making → Option MoveEntry → Step
move_step m None = Err Form
move_step m (Some e) = going (moved_answer m e.at.from e.at.action e.at.to) Moves (moved m e.at.from e.at.action e.at.to (drawn e.value))

abbrev pub light_step : Making → Option LightEntry → Step
light_step m None = Err Form
light_step m (Some e) = going (lit_answer m e.at.state e.at.lamp) Lights (lit m e.at.state e.at.lamp (shown e.value))

-- what each place of a part asks of its line: the form comes first
abbrev pub step : Stage → Making → List ℕ → Step
step SizesNames m l = named sizes_names l SizesValues m
step SizesValues m l = sizes_step m (sizes_in l)
step MovesNames m l = named moves_names l Moves m
step Moves m l = cond (bytes_eq l lights_names) (Ok (Lights, m)) (move_step m (move_in l))
step Lights m l = light_step m (light_in l)

-- a part may end once its lights have been named
abbrev pub may_end : Stage → Bool
may_end SizesNames = false
may_end SizesValues = false
may_end MovesNames = false
may_end Moves = false
may_end Lights = true
