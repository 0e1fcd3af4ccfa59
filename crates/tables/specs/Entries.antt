-- What a list of entries says of a system.
use Rattle.std.specs.Prelude.{ℕ, ◌-◌, min, Bool, cond, ◌&&◌, List, [], ◌∷◌, length, take, Some, None, Option, ◌==◌}
use Rattle.systems.specs.Entries.{MoveEntry, LightEntry}
use Rattle.systems.specs.Making.{Making}
use Rattle.systems.specs.Meaning.{Meaning, move_within, light_within}
use Rattle.systems.specs.Words.{drawn, shown}
use Rattle.systems.specs.declared.entries.Entry.{Entry}
use Rattle.systems.specs.declared.kinds.Kind.{Kind}
use Rattle.systems.specs.declared.kinds.Kind.TheVariants.{Absent}
use Rattle.systems.specs.declared.kinds.Light.{Light}
use Rattle.systems.specs.declared.kinds.Light.TheVariants.{Unknown}
use Rattle.systems.specs.declared.kinds.Modality.{Modality}
use Rattle.systems.specs.declared.kinds.Setting.{Setting}
use Rattle.systems.specs.declared.places.LampAt.{LampAt}
use Rattle.systems.specs.declared.places.Move.{Move}
use Rattle.systems.specs.declared.places.Sizes.{Sizes}

-- the earliest entry that fits decides
abbrev pub first : {P V : Type 0} → (P → P → Bool) → List (Entry P V) → P → Option V
first eq [] at = None
first eq (e ∷ es) at = cond (eq e.at at) (Some e.value) (first eq es at)

abbrev pub same_move : Move → Move → Bool
same_move m n = m.from == n.from && m.action == n.action && m.to == n.to

abbrev pub same_lamp : LampAt → LampAt → Bool
same_lamp m n = m.state == n.state && m.lamp == n.lamp

-- a move of which nothing is said is absent, and a lamp of which nothing is said unknown
abbrev pub kind_said : Option Modality → Kind
kind_said None = Absent
kind_said (Some m) = drawn m

abbrev pub light_said : Option Setting → Light
light_said None = Unknown
light_said (Some v) = shown v

-- at most this many places of a lent list are used
abbrev pub most_entries : ℕ
most_entries = 2048

abbrev pub usable : {E : Type 0} → List E → ℕ
usable es = min most_entries (length es)

-- the system of these sizes with the moves and lights of two lists
abbrev pub entries_meaning : Sizes → List MoveEntry → List LightEntry → Meaning
entries_meaning z ms ls = record {
  sizes = z;
  kind = λ s a t. cond (move_within z s a t) (kind_said (first same_move ms (record { from = s; action = a; to = t }))) Absent;
  light = λ s l. cond (light_within z s l) (light_said (first same_lamp ls (record { state = s; lamp = l }))) Unknown;
}

-- the system of these sizes with the moves and lights of the first entries of two lists
abbrev pub table_meaning : Sizes → List MoveEntry → ℕ → List LightEntry → ℕ → Meaning
table_meaning z ms drawn_so_far ls lit_so_far = entries_meaning z (take drawn_so_far ms) (take lit_so_far ls)

-- what is made in a table: up to 256 states, and a place of the lists for each entry
abbrev pub table_making : Sizes → List MoveEntry → ℕ → List LightEntry → ℕ → Making
table_making z ms i ls j = record {
  system = table_meaning z ms i ls j;
  most = 256;
  capacity = record { moves = Some (usable ms); lights = Some (usable ls) };
  places = record { moves = Some (usable ms - i); lights = Some (usable ls - j) };
}
