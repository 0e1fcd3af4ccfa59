-- Where the text of a quotient may end.
use Rattle.std.specs.Prelude.{Bool, true, false}
use Rattle.quotients.specs.declared.phase.Phase.{Phase}
use Rattle.quotients.specs.declared.phase.Phase.TheVariants.{Part, Count, MapNames, Map}

-- once the map has been named
abbrev pub may_end : Phase → Bool
may_end (Part stage) = false
may_end Count = false
may_end MapNames = false
may_end Map = true
