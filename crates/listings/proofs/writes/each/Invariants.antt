use Rattle.std.proofs.Common.{ℕ, ◌<◌, List}
use Rattle.listings.specs.Texts.{over}
use Rattle.listings.specs.Writings.{Writes}
use Rattle.listings.proofs.writes.each.Given as goal

-- what was written for the numbers so far
abbrev pub invariant-loop-i : goal.invariant-loop-i
invariant-loop-i g l = (f : ℕ → List ℕ) → ((i : ℕ) (w w' : _) → i < l.i → goal.F-post g l.write w i tt w' → Writes w.now (f i) w'.now) → Writes l.fn.writer (over l.i f) l.writer
