-- What moves of one kind enter.
use Rattle.std.specs.Prelude.{ℕ, Bool, not, ◌&&◌, ◌||◌}
use Rattle.systems.specs.Bounded.{any, all}
use Rattle.systems.specs.Meaning.{Meaning, states}
use Rattle.systems.specs.declared.kinds.Kind.{Kind}

-- some move of a kind from s on a enters the set, and every one does
abbrev pub enters_some : (Kind → Bool) → Meaning → ℕ → (ℕ → Bool) → ℕ → Bool
enters_some kind M a set s = any (states M) (λ t. kind (M.kind s a t) && set t)

abbrev pub enters_only : (Kind → Bool) → Meaning → ℕ → (ℕ → Bool) → ℕ → Bool
enters_only kind M a set s = all (states M) (λ t. not (kind (M.kind s a t)) || set t)
