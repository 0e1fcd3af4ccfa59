-- A text put into a buffer.
use Rattle.std.proofs.Common.{◌≡◌, ℕ, ◌+◌, ◌≤◌, leb, List, [], ◌++◌, length, take, drop, refl, append_assoc, add-zero, arith}
use Rattle.std.proofs.lemmas.Bool.{cond_both}
use Rattle.std.proofs.lemmas.Grind.{common_steps}
use Rattle.std.proofs.lemmas.List.{take_at, drop_at, drop-drop}
use Rattle.text.specs.Bytes.{put, written, next_place}

-- where the text fits, it is written and the next place is the one after it
pub written_fits : (buffer : List ℕ) (at : ℕ) (bs : List ℕ) → at + length bs ≤ length buffer → written buffer at bs ≡ put buffer at bs
written_fits buffer at bs h = grind (arith, common_steps)

pub next_fits : (buffer : List ℕ) (at : ℕ) (bs : List ℕ) → at + length bs ≤ length buffer → next_place buffer at bs ≡ at + length bs
next_fits buffer at bs h = grind (arith, common_steps)

pub put_none : (buffer : List ℕ) (at : ℕ) → put buffer at [] ≡ buffer
put_none buffer at = grind (arith, common_steps)

pub length_put : (buffer : List ℕ) (at : ℕ) (bs : List ℕ) → at + length bs ≤ length buffer → length (put buffer at bs) ≡ length buffer
length_put buffer at bs h = grind (arith, common_steps)

-- two texts put one after the other are the two joined and put at once
pub put_put : (buffer : List ℕ) (at : ℕ) (xs ys : List ℕ) → at ≤ length buffer → put (put buffer at xs) (at + length xs) ys ≡ put buffer at (xs ++ ys)
put_put buffer at xs ys h =
    let n = at + length xs in
    let front = take at buffer ++ xs in
    let rest = drop n buffer in
    let size : length front ≡ n = grind (arith, common_steps) in
    let last : n + length ys ≡ at + length (xs ++ ys) = grind (arith, common_steps) in
    rw (← append_assoc (take at buffer) xs rest, take_at front rest n size, ← drop-drop (length ys) n (front ++ rest), drop_at front rest n size, drop-drop (length ys) n buffer, last) (simp append_assoc)

-- a text with no bytes changes nothing, wherever it is written
pub written_none : (buffer : List ℕ) (at : ℕ) → written buffer at [] ≡ buffer
written_none buffer at = cond_both (leb (at + 0) (length buffer)) (put buffer at []) buffer (λ b. b ≡ buffer) (λ _. put_none buffer at) (λ _. refl)

pub next_none : (buffer : List ℕ) (at : ℕ) → next_place buffer at [] ≡ at
next_none buffer at = cond_both (leb (at + 0) (length buffer)) (at + 0) at (λ n. n ≡ at) (λ _. add-zero at) (λ _. refl)
