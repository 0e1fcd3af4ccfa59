-- What a frame's table says: which moves and lights its sets hold.
use Rattle.std.specs.Prelude.{ℕ, Bool, cond, [], slice_index_or}
use Rattle.sets.specs.Sets.{has}
use Rattle.systems.specs.Meaning.{Meaning}
use Rattle.systems.specs.declared.kinds.Kind.{Kind}
use Rattle.systems.specs.declared.kinds.Kind.TheVariants.{Absent, Optional, Certain}
use Rattle.systems.specs.declared.kinds.Light.{Light}
use Rattle.systems.specs.declared.kinds.Light.TheVariants.{Unknown, On, Off}
use Rattle.systems.specs.declared.places.Sizes.{Sizes}
use Rattle.frames.specs.declared.grid.Targets.{Targets}
use Rattle.frames.specs.declared.grid.Row.{Row}
use Rattle.frames.specs.declared.grid.Lights.{Lights}
use Rattle.frames.specs.declared.grid.Grid.{Grid}

-- what stands beyond a row's actions, beyond a table's rows, and beyond its lamps
abbrev pub no_targets : Targets
no_targets = record { may = 0; must = 0 }

abbrev pub blank_row : Row
blank_row = record { by_action = [] }

abbrev pub no_lights : Lights
no_lights = record { on = 0; off = 0 }

-- a possible move, and a certain one, of a row's state on an action to a state
abbrev pub row_may : Row → ℕ → ℕ → Bool
row_may r a t = has (slice_index_or r.by_action a no_targets).may t

abbrev pub row_must : Row → ℕ → ℕ → Bool
row_must r a t = has (slice_index_or r.by_action a no_targets).must t

abbrev pub may_at : Grid → ℕ → ℕ → ℕ → Bool
may_at g s a t = row_may (slice_index_or g.rows s blank_row) a t

abbrev pub must_at : Grid → ℕ → ℕ → ℕ → Bool
must_at g s a t = row_must (slice_index_or g.rows s blank_row) a t

abbrev pub on_at : Grid → ℕ → ℕ → Bool
on_at g s l = has (slice_index_or g.lamps l no_lights).on s

abbrev pub off_at : Grid → ℕ → ℕ → Bool
off_at g s l = has (slice_index_or g.lamps l no_lights).off s

abbrev pub kind_of : Bool → Bool → Kind
kind_of must may = cond must Certain (cond may Optional Absent)

abbrev pub light_of : Bool → Bool → Light
light_of on off = cond on On (cond off Off Unknown)

-- the system of these sizes with the moves and lights of the table
abbrev pub frame_meaning : Sizes → Grid → Meaning
frame_meaning z g = record {
  sizes = z;
  kind = λ s a t. kind_of (must_at g s a t) (may_at g s a t);
  light = λ s l. light_of (on_at g s l) (off_at g s l);
}
