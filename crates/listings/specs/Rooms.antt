-- How much room is booked for the text of a frame, and what is written into a buffer.
use Rattle.std.specs.Prelude.{ℕ, zero, suc, ◌+◌, ◌*◌, Bool, cond, List, length, Ok, Err, Result, nat_lt}
use Rattle.systems.specs.Meaning.{Meaning, states, actions, lamps}
use Rattle.systems.specs.Words.{possible, known}
use Rattle.systems.specs.declared.refusal.Refusal.{Refusal}
use Rattle.systems.specs.declared.refusal.Refusal.TheVariants.{Full}
use Rattle.text.specs.Bytes.{put}
use Rattle.listings.specs.Texts.{frame_text}

-- the sum of what the numbers below n count
abbrev pub sum_below : ℕ → (ℕ → ℕ) → ℕ
sum_below zero f = 0
sum_below (suc n) f = sum_below n f + f n

abbrev pub one_if : Bool → ℕ
one_if b = cond b 1 0

-- the moves from a state on an action, all those from a state, and the lights of a state
abbrev pub moves_on : Meaning → ℕ → ℕ → ℕ
moves_on M s a = sum_below (states M) (λ t. one_if (possible (M.kind s a t)))

abbrev pub moves_of : Meaning → ℕ → ℕ
moves_of M s = sum_below (actions M) (moves_on M s)

abbrev pub lights_of : Meaning → ℕ → ℕ
lights_of M s = sum_below (lamps M) (λ l. one_if (known (M.light s l)))

abbrev pub count_moves : Meaning → ℕ
count_moves M = sum_below (states M) (moves_of M)

abbrev pub count_lights : Meaning → ℕ
count_lights M = sum_below (states M) (lights_of M)

abbrev pub room_of : Meaning → ℕ
room_of M = 80 + 17 * (count_moves M + count_lights M)

-- a buffer shorter than the room is refused, and left as it is
abbrev pub write_answer : Meaning → List ℕ → Result ℕ Refusal
write_answer M buffer = cond (nat_lt (length buffer) (room_of M)) (Err Full) (Ok (length (frame_text M)))

abbrev pub write_after : Meaning → List ℕ → List ℕ
write_after M buffer = cond (nat_lt (length buffer) (room_of M)) buffer (put buffer 0 (frame_text M))
