-- What a table means, and what is made in it.
use Rattle.std.specs.Prelude.{◌≡◌}
use Rattle.systems.specs.Making.{Making}
use Rattle.systems.specs.Meaning.{Meaning}
use Rattle.systems.specs.declared.entries.Entry.{Entry}
use Rattle.tables.specs.Entries.{table_meaning, table_making}
use Rattle.tables.specs.declared.listed.Listed.{Listed}
use Rattle.tables.specs.declared.table.Table.{Table}

abbrev pub making_of : Table → Making
making_of t = table_making t.bounds.sizes t.moves.places.now t.moves.used t.lights.places.now t.lights.used

abbrev pub listed_meaning : Listed → Meaning
listed_meaning r = table_meaning r.bounds.sizes r.moves.places.now r.moves.used r.lights.places.now r.lights.used

-- what is written of a place
abbrev pub entry : {P V : Type 0} → P → V → Entry P V
entry at value = record { at = at; value = value }

-- a call keeps the two lists that were lent
pub record KeepsLists (old new : Table) : Type 0 where
  pub moves : new.moves.places.ghost_name ≡ old.moves.places.ghost_name
  pub lights : new.lights.places.ghost_name ≡ old.lights.places.ghost_name
