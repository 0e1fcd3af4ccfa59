-- The text of a frame: its sizes, its moves by from, action and to, and its lights by state and lamp.
use Rattle.std.specs.Prelude.{◌≡◌, ℕ, zero, suc, ◌<◌, ◌≤◌, List, [], ◌∷◌, ◌++◌, length, Ok}
use Rattle.frames.specs.Drafts.{drafting}
use Rattle.sets.specs.Sets.{width}
use Rattle.systems.specs.Meaning.{Meaning, Lawful, states, actions, lamps, blank, first_sizes}
use Rattle.systems.specs.declared.kinds.Kind.{Kind}
use Rattle.systems.specs.declared.kinds.Kind.TheVariants.{Absent, Optional, Certain}
use Rattle.systems.specs.declared.kinds.Light.{Light}
use Rattle.systems.specs.declared.kinds.Light.TheVariants.{Unknown, On, Off}
use Rattle.systems.specs.declared.kinds.Modality.TheVariants.{May, Must}
use Rattle.systems.specs.declared.kinds.Setting.TheVariants.{On as TurnOn, Off as TurnOff}
use Rattle.listings.specs.Forms.{sizes_names, moves_names, lights_names, sizes_text, move_text, light_text}
use Rattle.listings.specs.Readings.{reading}
use Rattle.listings.specs.Runs.{longest_paper}

-- the texts of the numbers below n, one after another
abbrev pub over : ℕ → (ℕ → List ℕ) → List ℕ
over zero f = []
over (suc n) f = over n f ++ f n

-- the line of a move, and that of a light, with its line feed, 10; nothing where there is none
abbrev pub move_line : Kind → ℕ → ℕ → ℕ → List ℕ
move_line Absent s a t = []
move_line Optional s a t = move_text (record { at = record { from = s; action = a; to = t }; value = May }) ++ (10 ∷ [])
move_line Certain s a t = move_text (record { at = record { from = s; action = a; to = t }; value = Must }) ++ (10 ∷ [])

abbrev pub light_line : Light → ℕ → ℕ → List ℕ
light_line Unknown s l = []
light_line On s l = light_text (record { at = record { state = s; lamp = l }; value = TurnOn }) ++ (10 ∷ [])
light_line Off s l = light_text (record { at = record { state = s; lamp = l }; value = TurnOff }) ++ (10 ∷ [])

abbrev pub moves_text : Meaning → List ℕ
moves_text M = over (states M) (λ s. over (actions M) (λ a. over (states M) (λ t. move_line (M.kind s a t) s a t)))

abbrev pub lights_text : Meaning → List ℕ
lights_text M = over (states M) (λ s. over (lamps M) (λ l. light_line (M.light s l) s l))

abbrev pub heading : List ℕ → List ℕ
heading names = names ++ (10 ∷ [])

abbrev pub frame_text : Meaning → List ℕ
frame_text M = heading sizes_names ++ (heading (sizes_text M.sizes) ++ (heading moves_names ++ (moves_text M ++ (heading lights_names ++ lights_text M))))

-- a system that a frame can hold
pub record Framed (M : Meaning) : Type 0 where
  pub lawful : Lawful M
  pub some_states : 0 < states M
  pub few_states : states M ≤ width

-- The text of a frame, where it is no longer than a paper may be, reads back as the same frame.
abbrev pub ReadsBack : Meaning → Type 0
ReadsBack M = length (frame_text M) ≤ longest_paper → reading (drafting (blank first_sizes)) (frame_text M) ≡ Ok (drafting M)
