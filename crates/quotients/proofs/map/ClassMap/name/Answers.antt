use Rattle.std.proofs.lemmas.List.{map-set, set-get_or}
use Rattle.quotients.proofs.map.ClassMap.name.Goals as goal

pub returns-clause-after : goal.returns-clause-after
returns-clause-after c = simp set-get_or (simp map-set)
