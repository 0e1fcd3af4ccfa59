-- The two kinds of entries, as contracts see them.
use Rattle.systems.specs.declared.entries.Entry.{Entry}
use Rattle.systems.specs.declared.kinds.Modality.{Modality}
use Rattle.systems.specs.declared.kinds.Setting.{Setting}
use Rattle.systems.specs.declared.places.Move.{Move}
use Rattle.systems.specs.declared.places.LampAt.{LampAt}

abbrev pub MoveEntry : Type 0
MoveEntry = Entry Move Modality

abbrev pub LightEntry : Type 0
LightEntry = Entry LampAt Setting
