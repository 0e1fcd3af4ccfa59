-- What is made in a draft.
use Rattle.std.specs.Prelude.{None}
use Rattle.sets.specs.Sets.{width}
use Rattle.systems.specs.Making.{Making, Places}
use Rattle.systems.specs.Meaning.{Meaning}

-- a draft has a place for every move and light
abbrev pub uncounted : Places
uncounted = record { moves = None; lights = None }

-- what is made in a draft that means M so far
abbrev pub drafting : Meaning → Making
drafting M = record { system = M; most = width; capacity = uncounted; places = uncounted }
