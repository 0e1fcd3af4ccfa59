-- What each place of a quotient's text asks of its line: the form first, and then the refusals in
-- their order.
use Rattle.std.specs.Prelude.{ℕ, cond, ◌&&◌, List, Some, None, Ok, Err, Option}
use Rattle.std.specs.Str.{bytes_eq}
use Rattle.listings.specs.Parts.{Step as PartStep, step as step_of_part, stage_after, made_after, may_end}
use Rattle.listings.specs.Runs.{Step}
use Rattle.listings.specs.declared.part.Stage.{Stage}
use Rattle.systems.specs.Edits.{Answer}
use Rattle.systems.specs.Making.{Making}
use Rattle.systems.specs.Meaning.{states}
use Rattle.systems.specs.declared.refusal.Refusal.TheVariants.{Form}
use Rattle.text.specs.Numbers.{numeral}
use Rattle.quotients.specs.Forms.{classes_names, map_names, class_in}
use Rattle.quotients.specs.Maps.{Map, fresh, count_answer, name_answer, named_as}
use Rattle.quotients.specs.declared.forms.ClassLine.{ClassLine}
use Rattle.quotients.specs.declared.phase.Phase.{Phase}
use Rattle.quotients.specs.declared.phase.Phase.TheVariants.{Part, Count, MapNames, Map as MapLines}

-- how far a text has been read: what comes next, what is made of its part, and its map
pub record Progress : Type 0 where
  pub phase : Phase
  pub made : Making
  pub map : Map

-- what is answered to a line
abbrev pub answer_of : Step Progress → Answer
answer_of (Ok q) = Ok tt
answer_of (Err e) = Err e

-- the same, with another line to come
abbrev pub at_phase : Phase → Progress → Progress
at_phase phase p = record { phase = phase; made = p.made; map = p.map }

-- a line of the part, as the part has it
abbrev pub carried : Map → Making → PartStep → Step Progress
carried m made s = elim (stage_after s) [ Ok stage ↦ Ok (record { phase = Part stage; made = made_after s made; map = m }) | Err e ↦ Err e ]

-- where the part may end, the names of the classes end it
abbrev pub part_step : Stage → Progress → List ℕ → Step Progress
part_step stage p l = cond (may_end stage && bytes_eq l classes_names) (Ok (at_phase Count p)) (carried p.map p.made (step_of_part stage p.made l))

-- a line of values leads on, if nothing is against it
abbrev pub going : Answer → Progress → Step Progress
going (Ok u) q = Ok q
going (Err e) q = Err e

-- the number of classes
abbrev pub count_step : Progress → Option ℕ → Step Progress
count_step p None = Err Form
count_step p (Some n) = going (count_answer n) (record { phase = MapNames; made = p.made; map = fresh n })

-- the names of the map
abbrev pub names_step : Progress → List ℕ → Step Progress
names_step p l = cond (bytes_eq l map_names) (Ok (at_phase MapLines p)) (Err Form)

-- a state with its class
abbrev pub class_step : Progress → Option ClassLine → Step Progress
class_step p None = Err Form
class_step p (Some e) =
    going (name_answer p.map (states p.made.system) e.state e.class) (record { phase = p.phase; made = p.made; map = named_as p.map e.state e.class })

-- any line, by what it is
abbrev pub step_at : Phase → Progress → List ℕ → Step Progress
step_at (Part stage) p l = part_step stage p l
step_at Count p l = count_step p (numeral l)
step_at MapNames p l = names_step p l
step_at MapLines p l = class_step p (class_in l)

abbrev pub step : Progress → List ℕ → Step Progress
step p l = step_at p.phase p l
