-- What the sets of a frame's table say of its moves and lights.
use Rattle.std.proofs.Common.{◌≡◌, ℕ, arith}
use Rattle.std.proofs.lemmas.Bool.Decides.{nat_tests}
use Rattle.systems.specs.Words.{possible, is_off}
use Rattle.frames.specs.Frames.{meaning_of}
use Rattle.frames.specs.Grids.{may_at, off_at}
use Rattle.frames.specs.declared.frame.Frame.{Frame}

pub may_held : (f : Frame) (s a t : ℕ) → may_at f.grid s a t ≡ possible ((meaning_of f).kind s a t)
may_held f s a t = grind (arith, nat_tests, f.certain_possible (s, a, t))

pub off_held : (f : Frame) (s l : ℕ) → off_at f.grid s l ≡ is_off ((meaning_of f).light s l)
off_held f s l = grind (arith, nat_tests, f.not_both (s, l))
