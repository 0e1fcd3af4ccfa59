-- The lines of a map.
use Rattle.std.specs.Prelude.{ℕ, List, Some, codes, Option}
use Rattle.listings.specs.Forms.{and_then}
use Rattle.text.specs.Bytes.{cut}
use Rattle.text.specs.Numbers.{numeral}
use Rattle.quotients.specs.declared.forms.ClassLine.{ClassLine}

-- the lines of names
abbrev pub classes_names : List ℕ
classes_names = codes "classes"

abbrev pub map_names : List ℕ
map_names = codes "state class"

-- a state and its class: the first ends at a blank, 32, and the other is all the rest
abbrev pub class_in : List ℕ → Option ClassLine
class_in l =
    and_then (cut 32 l) λ (p : List ℕ × List ℕ).
    and_then (numeral p.0) λ s.
    and_then (numeral p.1) λ c.
    Some (record { state = s; class = c })
