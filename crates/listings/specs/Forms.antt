-- The lines of a listing: what each is written as, and what is read from one.
use Rattle.std.specs.Prelude.{ℕ, ◌+◌, ◌-◌, cond, ◌&&◌, List, [], ◌∷◌, ◌++◌, Some, None, codes, Option, nat_le, nat_lt}
use Rattle.std.specs.Str.{bytes_eq}
use Rattle.text.specs.Bytes.{cut}
use Rattle.text.specs.Numbers.{decimal, numeral}
use Rattle.systems.specs.declared.kinds.Modality.{Modality}
use Rattle.systems.specs.declared.kinds.Modality.TheVariants.{May, Must}
use Rattle.systems.specs.declared.kinds.Setting.{Setting}
use Rattle.systems.specs.declared.kinds.Setting.TheVariants.{On, Off}
use Rattle.systems.specs.declared.places.Sizes.{Sizes}
use Rattle.systems.specs.Entries.{MoveEntry, LightEntry}

-- the lines of names
abbrev pub sizes_names : List ℕ
sizes_names = codes "states actions lamps start"

abbrev pub moves_names : List ℕ
moves_names = codes "from action to kind"

abbrev pub lights_names : List ℕ
lights_names = codes "state lamp light"

abbrev pub modality_word : Modality → List ℕ
modality_word May = codes "optional"
modality_word Must = codes "certain"

abbrev pub setting_word : Setting → List ℕ
setting_word On = codes "on"
setting_word Off = codes "off"

-- actions are written a to h, lamps p to w
abbrev pub first_action : ℕ
first_action = 97

abbrev pub first_lamp : ℕ
first_lamp = 112

-- The lines of values: one blank, 32, between two.
abbrev pub sizes_text : Sizes → List ℕ
sizes_text z = decimal z.states ++ (32 ∷ (decimal z.actions ++ (32 ∷ (decimal z.lamps ++ (32 ∷ decimal z.start)))))

abbrev pub move_text : MoveEntry → List ℕ
move_text e = decimal e.at.from ++ (32 ∷ (first_action + e.at.action) ∷ 32 ∷ (decimal e.at.to ++ (32 ∷ modality_word e.value)))

abbrev pub light_text : LightEntry → List ℕ
light_text e = decimal e.at.state ++ (32 ∷ (first_lamp + e.at.lamp) ∷ 32 ∷ setting_word e.value)

-- what follows from a value, if there is one
abbrev pub and_then : {A B : Type 0} → Option A → (A → Option B) → Option B
and_then None f = None
and_then (Some x) f = f x

-- the number of a letter among the eight from a first one on
abbrev pub letter_in : ℕ → List ℕ → Option ℕ
letter_in first [] = None
letter_in first (b ∷ []) = cond (nat_le first b && nat_lt b (first + 8)) (Some (b - first)) None
letter_in first (b ∷ c ∷ bs) = None

-- the value that a word stands for, where each of two words stands for one
abbrev pub choice_in : {T : Type 0} → List ℕ → T → List ℕ → T → List ℕ → Option T
choice_in first a second b w = cond (bytes_eq w first) (Some a) (cond (bytes_eq w second) (Some b) None)

abbrev pub modality_in : List ℕ → Option Modality
modality_in = choice_in (codes "optional") May (codes "certain") Must

abbrev pub setting_in : List ℕ → Option Setting
setting_in = choice_in (codes "on") On (codes "off") Off

-- What a line says: its fields end at the next blank, and the last is all the rest.
abbrev pub sizes_in : List ℕ → Option Sizes
sizes_in l =
    and_then (cut 32 l) λ (p : List ℕ × List ℕ).
    and_then (cut 32 p.1) λ (q : List ℕ × List ℕ).
    and_then (cut 32 q.1) λ (r : List ℕ × List ℕ).
    and_then (numeral p.0) λ n.
    and_then (numeral q.0) λ k.
    and_then (numeral r.0) λ m.
    and_then (numeral r.1) λ s.
    Some (record { states = n; actions = k; lamps = m; start = s })

abbrev pub move_in : List ℕ → Option MoveEntry
move_in l =
    and_then (cut 32 l) λ (p : List ℕ × List ℕ).
    and_then (cut 32 p.1) λ (q : List ℕ × List ℕ).
    and_then (cut 32 q.1) λ (r : List ℕ × List ℕ).
    and_then (numeral p.0) λ s.
    and_then (letter_in first_action q.0) λ a.
    and_then (numeral r.0) λ t.
    and_then (modality_in r.1) λ k.
    Some (record { at = record { from = s; action = a; to = t }; value = k })

abbrev pub light_in : List ℕ → Option LightEntry
light_in l =
    and_then (cut 32 l) λ (p : List ℕ × List ℕ).
    and_then (cut 32 p.1) λ (q : List ℕ × List ℕ).
    and_then (numeral p.0) λ s.
    and_then (letter_in first_lamp q.0) λ m.
    and_then (setting_in q.1) λ v.
    Some (record { at = record { state = s; lamp = m }; value = v })
