-- What a system means: its sizes, and the two tables of its moves and lights.
use Rattle.std.specs.Prelude.{◌≡◌, ℕ, ◌<◌, ◌≤◌, Bool, true, cond, ◌&&◌, ◌==◌, nat_lt}
use Rattle.systems.specs.declared.kinds.Kind.{Kind}
use Rattle.systems.specs.declared.kinds.Kind.TheVariants.{Absent}
use Rattle.systems.specs.declared.kinds.Light.{Light}
use Rattle.systems.specs.declared.kinds.Light.TheVariants.{Unknown}
use Rattle.systems.specs.declared.places.Sizes.{Sizes}
use Rattle.systems.specs.Words.{possible, known}

pub record Meaning : Type 0 where
  pub sizes : Sizes
  -- the move from a state on an action to a state
  pub kind : ℕ → ℕ → ℕ → Kind
  -- what a lamp shows, at a state and a lamp
  pub light : ℕ → ℕ → Light

abbrev pub states : Meaning → ℕ
states M = M.sizes.states

abbrev pub actions : Meaning → ℕ
actions M = M.sizes.actions

abbrev pub lamps : Meaning → ℕ
lamps M = M.sizes.lamps

-- the place of a move, and that of a light, lie within the sizes
abbrev pub move_within : Sizes → ℕ → ℕ → ℕ → Bool
move_within z s a t = nat_lt s z.states && nat_lt a z.actions && nat_lt t z.states

abbrev pub light_within : Sizes → ℕ → ℕ → Bool
light_within z s l = nat_lt s z.states && nat_lt l z.lamps

-- What holds of every system: the limits of its sizes, and nothing beyond them.
pub record Lawful (M : Meaning) : Type 0 where
  pub few_states : states M ≤ 256
  pub few_actions : actions M ≤ 8
  pub few_lamps : lamps M ≤ 8
  pub started : 0 < states M → M.sizes.start < states M
  pub without_states : states M ≡ 0 → (actions M ≡ 0) × (lamps M ≡ 0) × (M.sizes.start ≡ 0)
  pub moves_within : (s a t : ℕ) → possible (M.kind s a t) ≡ true → move_within M.sizes s a t ≡ true
  pub lights_within : (s l : ℕ) → known (M.light s l) ≡ true → light_within M.sizes s l ≡ true

-- the sizes that work begins with: one state, which is the start, no actions and no lamps
abbrev pub first_sizes : Sizes
first_sizes = record { states = 1; actions = 0; lamps = 0; start = 0 }

-- the system of these sizes with no moves, and every lamp unknown
abbrev pub blank : Sizes → Meaning
blank z = record { sizes = z; kind = λ s a t. Absent; light = λ s l. Unknown }

-- M with the move from s on a to t of the kind k, and no other changed
abbrev pub with_move : Meaning → ℕ → ℕ → ℕ → Kind → Meaning
with_move M s a t k = record {
  sizes = M.sizes;
  kind = λ x b y. cond (x == s && b == a && y == t) k (M.kind x b y);
  light = M.light;
}

-- M with the lamp l of the state s showing v, and no other changed
abbrev pub with_light : Meaning → ℕ → ℕ → Light → Meaning
with_light M s l v = record {
  sizes = M.sizes;
  kind = M.kind;
  light = λ x m. cond (x == s && m == l) v (M.light x m);
}
