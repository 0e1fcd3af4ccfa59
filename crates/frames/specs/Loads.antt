-- What is taken over from a system into a table: all that lies within its sizes.
use Rattle.std.specs.Prelude.{◌≡◌, ℕ, ◌&&◌, slice_index_or}
use Rattle.sets.specs.Sets.{has}
use Rattle.systems.specs.Meaning.{Meaning, move_within, light_within}
use Rattle.systems.specs.Words.{possible, certain, is_on, is_off}
use Rattle.systems.specs.declared.places.Sizes.{Sizes}
use Rattle.frames.specs.Grids.{no_targets}
use Rattle.frames.specs.declared.grid.Targets.{Targets}
use Rattle.frames.specs.declared.grid.Row.{Row}
use Rattle.frames.specs.declared.grid.Lights.{Lights}

-- T holds the states that M's moves from the state s on the action a enter, within the sizes z
pub record HoldsMoves (z : Sizes) (M : Meaning) (s a : ℕ) (T : Targets) : Type 0 where
  pub may : (t : ℕ) → has T.may t ≡ (move_within z s a t && possible (M.kind s a t))
  pub must : (t : ℕ) → has T.must t ≡ (move_within z s a t && certain (M.kind s a t))

-- so does R, for each action
pub record HoldsRow (z : Sizes) (M : Meaning) (s : ℕ) (R : Row) : Type 0 where
  pub each : (a : ℕ) → HoldsMoves z M s a (slice_index_or R.by_action a no_targets)

-- L holds the states where M's lamp l is on, and where it is off, within the sizes z
pub record HoldsLights (z : Sizes) (M : Meaning) (l : ℕ) (L : Lights) : Type 0 where
  pub on : (s : ℕ) → has L.on s ≡ (light_within z s l && is_on (M.light s l))
  pub off : (s : ℕ) → has L.off s ≡ (light_within z s l && is_off (M.light s l))
