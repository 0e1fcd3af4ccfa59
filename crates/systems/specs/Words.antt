-- What the words of a system say of one another.
use Rattle.std.specs.Prelude.{Bool, true, false}
use Rattle.systems.specs.declared.kinds.Kind.{Kind}
use Rattle.systems.specs.declared.kinds.Kind.TheVariants.{Absent, Optional, Certain}
use Rattle.systems.specs.declared.kinds.Modality.{Modality}
use Rattle.systems.specs.declared.kinds.Modality.TheVariants.{May, Must}
use Rattle.systems.specs.declared.kinds.Light.{Light}
use Rattle.systems.specs.declared.kinds.Light.TheVariants.{Unknown, On, Off}
use Rattle.systems.specs.declared.kinds.Setting.{Setting}
use Rattle.systems.specs.declared.kinds.Setting.TheVariants.{On as TurnOn, Off as TurnOff}

-- a move that is optional or certain
abbrev pub possible : Kind → Bool
possible Absent = false
possible Optional = true
possible Certain = true

abbrev pub certain : Kind → Bool
certain Absent = false
certain Optional = false
certain Certain = true

abbrev pub optional : Kind → Bool
optional Absent = false
optional Optional = true
optional Certain = false

-- a move that is there if one of the modality is asked for: the possible moves, or the certain ones
abbrev pub among : Modality → Kind → Bool
among May = possible
among Must = certain

abbrev pub drawn : Modality → Kind
drawn May = Optional
drawn Must = Certain

abbrev pub known : Light → Bool
known Unknown = false
known On = true
known Off = true

abbrev pub is_on : Light → Bool
is_on Unknown = false
is_on On = true
is_on Off = false

abbrev pub is_off : Light → Bool
is_off Unknown = false
is_off On = false
is_off Off = true

-- a lamp that shows the setting
abbrev pub shows : Setting → Light → Bool
shows TurnOn = is_on
shows TurnOff = is_off

abbrev pub shown : Setting → Light
shown TurnOn = On
shown TurnOff = Off
