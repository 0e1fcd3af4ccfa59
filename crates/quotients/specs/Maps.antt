-- A map of states to classes, made one state at a time.
use Rattle.std.specs.Prelude.{ℕ, Bool, true, false, cond, not, ◌&&◌, ◌||◌, List, replicate, Ok, Err, ◌==◌, nat_lt, slice_index_or, slice_set}
use Rattle.sets.specs.Sets.{width}
use Rattle.systems.specs.Edits.{Answer}
use Rattle.systems.specs.declared.refusal.Refusal.TheVariants.{States, NoState, Repeated}

pub record Map : Type 0 where
  pub count : ℕ
  -- the class of each of 256 states
  pub classes : List ℕ
  -- which of them have been named
  pub named : List Bool

-- as many classes as a frame can have states
abbrev pub count_answer : ℕ → Answer
count_answer n = cond (n == 0 || nat_lt width n) (Err States) (Ok tt)

-- so many classes, every state in class 0, and none named
abbrev pub fresh : ℕ → Map
fresh count = record { count = count; classes = replicate 256 0; named = replicate 256 false }

-- a state that is not named yet, in a system of so many states, and a class
abbrev pub name_answer : Map → ℕ → ℕ → ℕ → Answer
name_answer m states s c = cond (not (nat_lt s states && nat_lt c m.count)) (Err NoState) (cond (slice_index_or m.named s false) (Err Repeated) (Ok tt))

-- the map with that state in that class
abbrev pub named_as : Map → ℕ → ℕ → Map
named_as m s c = record { count = m.count; classes = slice_set m.classes s c; named = slice_set m.named s true }
