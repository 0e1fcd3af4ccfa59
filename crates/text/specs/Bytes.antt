-- Parts of a text up to a byte, and a text put into a buffer.
use Rattle.std.specs.Prelude.{ℕ, ◌+◌, cond, List, [], ◌∷◌, ◌++◌, length, take, drop, Some, None, Option, ◌==◌, nat_le}
use Rattle.std.specs.Option.{option_map}

-- the bytes of a text before the first b, or all of them where there is none
abbrev pub before : ℕ → List ℕ → List ℕ
before b [] = []
before b (x ∷ xs) = cond (x == b) [] (x ∷ before b xs)

-- a text cut in two at its first b, which belongs to neither part; nothing where there is none
abbrev pub cut : ℕ → List ℕ → Option (List ℕ × List ℕ)
cut b [] = None
cut b (x ∷ xs) = cond (x == b) (Some ([], xs)) (option_map (λ (p : List ℕ × List ℕ). (x ∷ p.0, p.1)) (cut b xs))

-- a buffer with the text bs in place of what it held from the place at on
abbrev pub put : List ℕ → ℕ → List ℕ → List ℕ
put buffer at bs = take at buffer ++ (bs ++ drop (at + length bs) buffer)

-- A buffer after the text bs was written at a place, and the next place: where the text would pass
-- the buffer's end, nothing is written.
abbrev pub written : List ℕ → ℕ → List ℕ → List ℕ
written buffer at bs = cond (nat_le (at + length bs) (length buffer)) (put buffer at bs) buffer

abbrev pub next_place : List ℕ → ℕ → List ℕ → ℕ
next_place buffer at bs = cond (nat_le (at + length bs) (length buffer)) (at + length bs) at
