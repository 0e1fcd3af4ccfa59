-- The text of a frame fits the room that is booked for it.
use Rattle.std.proofs.Common.{ℕ, zero, suc, ◌*◌, ◌<◌, ◌≤◌, List, length, mul-add, arith, length-append}
use Rattle.text.proofs.Numerals.{length_decimal_one, length_decimal_two}
use Rattle.frames.specs.Laws.{lawful}
use Rattle.frames.specs.Frames.{meaning_of}
use Rattle.frames.specs.declared.frame.Frame.{Frame}
use Rattle.systems.specs.Meaning.{Meaning, states, actions, lamps}
use Rattle.systems.specs.Words.{possible, known}
use Rattle.systems.specs.declared.kinds.Kind.{Kind}
use Rattle.systems.specs.declared.kinds.Kind.TheVariants.{Absent, Optional, Certain}
use Rattle.systems.specs.declared.kinds.Light.{Light}
use Rattle.systems.specs.declared.kinds.Light.TheVariants.{Unknown, On, Off}
use Rattle.listings.specs.Rooms.{sum_below, one_if, count_moves, count_lights, room_of}
use Rattle.listings.specs.Texts.{over, move_line, light_line, moves_text, lights_text, frame_text, Framed}

move_short : (k : Kind) (s a t : ℕ) → s < 100 → t < 100 → length (move_line k s a t) ≤ 17 * one_if (possible k)
move_short Absent s a t in_s in_t = omega arith
move_short Optional s a t in_s in_t = simp length-append (omega (arith, length_decimal_two s in_s, length_decimal_two t in_t))
move_short Certain s a t in_s in_t = simp length-append (omega (arith, length_decimal_two s in_s, length_decimal_two t in_t))

light_short : (v : Light) (s l : ℕ) → s < 100 → length (light_line v s l) ≤ 17 * one_if (known v)
light_short Unknown s l in_s = omega arith
light_short On s l in_s = simp length-append (omega (arith, length_decimal_two s in_s))
light_short Off s l in_s = simp length-append (omega (arith, length_decimal_two s in_s))

-- the texts below n take at most c times what is counted, where each does
pub over_length : (c n : ℕ) (f : ℕ → List ℕ) (g : ℕ → ℕ) → ((i : ℕ) → i < n → length (f i) ≤ c * g i) → length (over n f) ≤ c * sum_below n g
over_length c zero f g each = omega arith
over_length c (suc n) f g each =
    omega (arith, over_length c n f g (λ i in_n. each i (omega arith)), each n (omega arith), length-append (over n f) (f n), mul-add c (sum_below n g) (g n))

module _ (M : Meaning) (few : states M ≤ 64) where
  moves_short : length (moves_text M) ≤ 17 * count_moves M
  moves_short =
      over_length 17 (states M) _ _ λ s in_s.
      over_length 17 (actions M) _ _ λ a in_a.
      over_length 17 (states M) _ _ λ t in_t.
      move_short (M.kind s a t) s a t (omega arith) (omega arith)

  lights_short : length (lights_text M) ≤ 17 * count_lights M
  lights_short =
      over_length 17 (states M) _ _ λ s in_s.
      over_length 17 (lamps M) _ _ λ l in_l.
      light_short (M.light s l) s l (omega arith)

pub text_fits : (M : Meaning) → Framed M → length (frame_text M) ≤ room_of M
text_fits M framed =
    let lawful = framed.lawful in
    let few = framed.few_states in
    let started = lawful.started framed.some_states in
    let n = length_decimal_two (states M) (omega arith) in
    let k = length_decimal_one (actions M) (omega (arith, lawful.few_actions)) in
    let m = length_decimal_one (lamps M) (omega (arith, lawful.few_lamps)) in
    let s = length_decimal_two M.sizes.start (omega arith) in
    simp length-append (omega (arith, n, k, m, s, moves_short M few, lights_short M few, mul-add 17 (count_moves M) (count_lights M)))

pub framed : (f : Frame) → Framed (meaning_of f)
framed f = record { lawful = lawful f; some_states = f.bounds.some_states; few_states = f.bounds.few_states }

pub frame_fits : (f : Frame) → length (frame_text (meaning_of f)) ≤ room_of (meaning_of f)
frame_fits f = text_fits (meaning_of f) (framed f)
