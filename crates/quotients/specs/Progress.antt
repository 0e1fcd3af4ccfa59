-- What a map and a parser stand for.
use Rattle.std.specs.Prelude.{map, is_some, unwrap_or}
use Rattle.tables.specs.Tables.{making_of}
use Rattle.quotients.specs.Maps.{Map}
use Rattle.quotients.specs.Steps.{Progress}
use Rattle.quotients.specs.declared.map.ClassMap.{ClassMap}
use Rattle.quotients.specs.declared.parser.QuotientParser.{QuotientParser}

-- a state that is not named yet is in class 0
abbrev pub map_of : ClassMap → Map
map_of m = record { count = m.count; classes = map (λ k. unwrap_or k 0) m.classes; named = map is_some m.classes }

-- how far a parser has read
abbrev pub progress_of : QuotientParser → Progress
progress_of p = record { phase = p.phase; made = making_of p.table; map = map_of p.map }
