-- A system that is being made, whatever it is written into: what it is so far, and how much more it
-- takes.
use Rattle.std.specs.Prelude.{ℕ, pred, Bool, false, cond, Some, None, Ok, Err, Option, ◌==◌}
use Rattle.std.specs.Option.{option_map}
use Rattle.systems.specs.declared.places.Sizes.{Sizes}
use Rattle.systems.specs.declared.kinds.Kind.{Kind}
use Rattle.systems.specs.declared.kinds.Light.{Light}
use Rattle.systems.specs.declared.refusal.Refusal.TheVariants.{Full}
use Rattle.systems.specs.Edits.{Answer, first_refusal, size_answer, draw_answer, light_answer}
use Rattle.systems.specs.Meaning.{Meaning, blank, with_move, with_light}

-- places for moves and for lights, where they are counted
pub record Places : Type 0 where
  pub moves : Option ℕ
  pub lights : Option ℕ

abbrev pub is_full : Option ℕ → Bool
is_full None = false
is_full (Some n) = n == 0

abbrev pub one_fewer : Option ℕ → Option ℕ
one_fewer p = option_map pred p

pub record Making : Type 0 where
  pub system : Meaning
  -- the most states that it takes
  pub most : ℕ
  -- the places that there are, and those that are left
  pub capacity : Places
  pub places : Places

abbrev pub room_answer : Option ℕ → Answer
room_answer p = cond (is_full p) (Err Full) (Ok tt)

-- sizes remove all moves and lights
abbrev pub sized : Making → Sizes → Making
sized m z = record { system = blank z; most = m.most; capacity = m.capacity; places = m.capacity }

abbrev pub sized_answer : Making → Sizes → Answer
sized_answer m z = size_answer m.most z

abbrev pub moved : Making → ℕ → ℕ → ℕ → Kind → Making
moved m s a t k = record {
  system = with_move m.system s a t k;
  most = m.most;
  capacity = m.capacity;
  places = record { moves = one_fewer m.places.moves; lights = m.places.lights };
}

abbrev pub moved_answer : Making → ℕ → ℕ → ℕ → Answer
moved_answer m s a t = first_refusal (draw_answer m.system s a t) (room_answer m.places.moves)

abbrev pub lit : Making → ℕ → ℕ → Light → Making
lit m s l v = record {
  system = with_light m.system s l v;
  most = m.most;
  capacity = m.capacity;
  places = record { moves = m.places.moves; lights = one_fewer m.places.lights };
}

abbrev pub lit_answer : Making → ℕ → ℕ → Answer
lit_answer m s l = first_refusal (light_answer m.system s l) (room_answer m.places.lights)
