-- When the frame of a case can be tightened.
use Rattle.std.specs.Prelude.{ℕ, cond, Ok, Err}
use Rattle.systems.specs.Edits.{Answer, first_refusal, move_place_answer, lamp_place_answer}
use Rattle.systems.specs.Meaning.{Meaning}
use Rattle.systems.specs.Words.{optional, known}
use Rattle.systems.specs.declared.refusal.Refusal.TheVariants.{NotOptional, NotUnknown}

-- a move that is to become certain or absent has to be optional
abbrev pub move_answer : Meaning → ℕ → ℕ → ℕ → Answer
move_answer M s a t = first_refusal (move_place_answer M.sizes s a t) (cond (optional (M.kind s a t)) (Ok tt) (Err NotOptional))

-- a lamp that is to be decided has to be unknown
abbrev pub lamp_answer : Meaning → ℕ → ℕ → Answer
lamp_answer M s l = first_refusal (lamp_place_answer M.sizes s l) (cond (known (M.light s l)) (Err NotUnknown) (Ok tt))
