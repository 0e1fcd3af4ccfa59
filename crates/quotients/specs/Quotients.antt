-- The quotient that a text describes.
use Rattle.std.specs.Prelude.{ℕ, List, Ok, Err, nat_eq}
use Rattle.folds.specs.Folds.{class_of, fold_meaning}
use Rattle.folds.specs.Readings.{Abstraction}
use Rattle.listings.specs.declared.part.Stage.TheVariants.{SizesNames}
use Rattle.systems.specs.Meaning.{Meaning, first_sizes}
use Rattle.systems.specs.Refinement.{Refines}
use Rattle.tables.specs.Entries.{table_making}
use Rattle.systems.specs.Entries.{MoveEntry, LightEntry}
use Rattle.quotients.specs.Maps.{fresh}
use Rattle.quotients.specs.Outcomes.{Outcome, reading}
use Rattle.quotients.specs.Steps.{Progress}
use Rattle.quotients.specs.declared.phase.Phase.TheVariants.{Part}

-- before the first line: an empty table in two lists, and every state in the one class
abbrev pub first : List MoveEntry → List LightEntry → Progress
first ms ls = record { phase = Part SizesNames; made = table_making first_sizes ms 0 ls 0; map = fresh 1 }

-- what a whole text comes to, with two lists to hold its system
abbrev pub reading_into : List MoveEntry → List LightEntry → List ℕ → Outcome
reading_into ms ls t = reading (first ms ls) t

-- the fold of the text's system by its map, or what was there before
abbrev pub quotient_after : Outcome → Meaning → Meaning
quotient_after (Ok p) old = fold_meaning p.made.system p.map.classes p.map.count
quotient_after (Err e) old = old

-- F is exactly the abstraction of M by the classes cs, of which there are count, and joining each
-- state to its class shows that M refines it
pub record Folded (M : Meaning) (cs : List ℕ) (count : ℕ) (F : Meaning) : Type 0 where
  pub exact : Abstraction M cs count F
  pub refined : Refines M F (λ c a. nat_eq (class_of cs c) a)

-- a text that is taken leaves such a fold behind
abbrev pub Faithful : Outcome → Meaning → Type 0
Faithful (Ok p) F = Folded p.made.system p.map.classes p.map.count F
Faithful (Err e) F = Unit {0}
