-- The lines of a text.
use Rattle.std.specs.Prelude.{ℕ, zero, suc, Bool, true, false, cond, List, [], ◌∷◌, Some, None, Option, ◌==◌}

-- the bytes of a line without its line feed, and whether it has one
pub record Line : Type 0 where
  pub bytes : List ℕ
  pub ended : Bool

-- a byte more at the front of the first line; where there is none, a line that is not ended
abbrev pub longer : ℕ → List Line → List Line
longer b [] = record { bytes = b ∷ []; ended = false } ∷ []
longer b (l ∷ ls) = record { bytes = b ∷ l.bytes; ended = l.ended } ∷ ls

-- Each line feed, 10, ends a line. The bytes after the last one, if any, are a line that is not ended.
abbrev pub lines : List ℕ → List Line
lines [] = []
lines (b ∷ bs) = cond (b == 10) (record { bytes = []; ended = true } ∷ lines bs) (longer b (lines bs))

-- the line of a number, counted from 1
abbrev pub line_at : List Line → ℕ → Option (List ℕ)
line_at ls zero = None
line_at [] (suc n) = None
line_at (l ∷ ls) (suc zero) = Some l.bytes
line_at (l ∷ ls) (suc (suc n)) = line_at ls (suc n)
