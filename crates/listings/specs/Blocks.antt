-- The parts of a frame's text that stand together.
use Rattle.std.specs.Prelude.{ℕ, List}
use Rattle.systems.specs.Meaning.{Meaning, states, actions, lamps}
use Rattle.listings.specs.Texts.{over, move_line, light_line}

-- the moves from a state on an action, and all those from a state
abbrev pub moves_on_text : Meaning → ℕ → ℕ → List ℕ
moves_on_text M s a = over (states M) (λ t. move_line (M.kind s a t) s a t)

abbrev pub moves_of_text : Meaning → ℕ → List ℕ
moves_of_text M s = over (actions M) (moves_on_text M s)

-- the lights of a state
abbrev pub lights_of_text : Meaning → ℕ → List ℕ
lights_of_text M s = over (lamps M) (λ l. light_line (M.light s l) s l)
