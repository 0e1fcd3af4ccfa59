-- When a system that is being made takes its sizes, a move or a light, and what it is then.
use Rattle.std.specs.Prelude.{ℕ, cond, not, ◌&&◌, ◌||◌, Ok, Err, Result, ◌==◌, nat_le, nat_lt}
use Rattle.systems.specs.declared.places.Sizes.{Sizes}
use Rattle.systems.specs.declared.refusal.Refusal.{Refusal}
use Rattle.systems.specs.declared.refusal.Refusal.TheVariants.{States, Letters, Start, NoState, NoLetter, Repeated}
use Rattle.systems.specs.Meaning.{Meaning}
use Rattle.systems.specs.Words.{possible, known}

abbrev pub Answer : Type 0
Answer = Result (Unit {0}) Refusal

-- what a call leaves behind: the changed value where it goes through, else the old one
abbrev pub after : {V : Type 0} → Answer → V → V → V
after (Ok u) new old = new
after (Err e) new old = old

-- the first refusal of two
abbrev pub first_refusal : Answer → Answer → Answer
first_refusal (Ok u) b = b
first_refusal (Err e) b = Err e

-- sizes for a system of at most `most` states
abbrev pub size_answer : ℕ → Sizes → Answer
size_answer most z =
    cond (z.states == 0 || nat_lt most z.states) (Err States) (cond (nat_lt 8 z.actions || nat_lt 8 z.lamps) (Err Letters) (cond (nat_le z.states z.start) (Err Start) (Ok tt)))

-- a place for a move from s on a to t, and one for the lamp l of the state s, in a system of these sizes
abbrev pub move_place_answer : Sizes → ℕ → ℕ → ℕ → Answer
move_place_answer z s a t = cond (not (nat_lt s z.states && nat_lt t z.states)) (Err NoState) (cond (not (nat_lt a z.actions)) (Err NoLetter) (Ok tt))

abbrev pub lamp_place_answer : Sizes → ℕ → ℕ → Answer
lamp_place_answer z s l = cond (not (nat_lt s z.states)) (Err NoState) (cond (not (nat_lt l z.lamps)) (Err NoLetter) (Ok tt))

-- a new move from s on a to t
abbrev pub draw_answer : Meaning → ℕ → ℕ → ℕ → Answer
draw_answer M s a t = first_refusal (move_place_answer M.sizes s a t) (cond (possible (M.kind s a t)) (Err Repeated) (Ok tt))

-- a light for the lamp l of the state s
abbrev pub light_answer : Meaning → ℕ → ℕ → Answer
light_answer M s l = first_refusal (lamp_place_answer M.sizes s l) (cond (known (M.light s l)) (Err Repeated) (Ok tt))

-- a copy of a system, for one of at most `most` states
abbrev pub load_answer : ℕ → Meaning → Answer
load_answer most M = cond (M.sizes.states == 0 || nat_lt most M.sizes.states) (Err States) (Ok tt)
