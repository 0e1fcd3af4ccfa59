-- A text written by a writer that has room for it.
use Rattle.std.specs.Prelude.{◌≡◌, ℕ, ◌+◌, ◌≤◌, List, length}
use Rattle.text.specs.Bytes.{put}
use Rattle.text.specs.declared.writes.Writer.{Writer}

-- the text stands in the buffer from the writer's old place on, nothing else has changed, and the
-- new place is the one after it
pub record Wrote (old : Writer) (bs : List ℕ) (new : Writer) : Type 0 where
  pub after : new.buffer.now ≡ put old.buffer.now old.at bs
  pub place : new.at ≡ old.at + length bs
  pub lent : new.buffer.ghost_name ≡ old.buffer.ghost_name

-- the text was written, if there was room for it
abbrev pub Writes : Writer → List ℕ → Writer → Type 0
Writes old bs new = old.at + length bs ≤ length old.buffer.now → Wrote old bs new
