-- The abstraction of a system by a map of its states to classes, as it is computed.
use Rattle.std.specs.Prelude.{ℕ, Bool, true, cond, not, ◌&&◌, ◌||◌, List, ◌==◌, nat_le, nat_lt, slice_index}
use Rattle.systems.specs.Bounded.{any, all}
use Rattle.systems.specs.Meaning.{Meaning, states, actions, lamps, blank}
use Rattle.systems.specs.Words.{possible, certain, is_on, is_off}
use Rattle.systems.specs.declared.kinds.Kind.{Kind}
use Rattle.systems.specs.declared.kinds.Kind.TheVariants.{Absent, Optional, Certain}
use Rattle.systems.specs.declared.kinds.Light.{Light}
use Rattle.systems.specs.declared.kinds.Light.TheVariants.{Unknown, On, Off}
use Rattle.systems.specs.declared.places.Sizes.{Sizes}
use Rattle.folds.specs.Maps.{are_classes}

-- the class of a state; there is a class for each of 256 states
abbrev pub class_of : List ℕ → ℕ → ℕ
class_of cs s = slice_index cs s

-- a count of classes that a frame could have, every class below it, and a system that has states
abbrev pub is_map : Meaning → List ℕ → ℕ → Bool
is_map M cs count = are_classes cs count && nat_le 1 (states M)

-- the state s of M is a member of the class a
abbrev pub member : Meaning → List ℕ → ℕ → ℕ → Bool
member M cs a s = nat_lt s (states M) && class_of cs s == a

-- some move of the state s on x that passes the test enters the class b
abbrev pub enters : (Kind → Bool) → Meaning → List ℕ → ℕ → ℕ → ℕ → Bool
enters test M cs s x b = any (states M) (λ t. test (M.kind s x t) && member M cs b t)

abbrev pub some_member : Meaning → List ℕ → ℕ → (ℕ → Bool) → Bool
some_member M cs a p = any (states M) (λ s. member M cs a s && p s)

abbrev pub every_member : Meaning → List ℕ → ℕ → (ℕ → Bool) → Bool
every_member M cs a p = all (states M) (λ s. not (member M cs a s) || p s)

-- possible where some member has a possible move there, and certain where, besides, every member has a certain one
abbrev pub fold_kind : Meaning → List ℕ → ℕ → ℕ → ℕ → Kind
fold_kind M cs a x b =
    cond (some_member M cs a (λ s. enters possible M cs s x b))
    (cond (every_member M cs a (λ s. enters certain M cs s x b)) Certain Optional) Absent

-- on, or off, where the class has members and all show that
abbrev pub fold_light : Meaning → List ℕ → ℕ → ℕ → Light
fold_light M cs a l =
    cond (some_member M cs a (λ s. true))
    (cond (every_member M cs a (λ s. is_on (M.light s l))) On
    (cond (every_member M cs a (λ s. is_off (M.light s l))) Off Unknown)) Unknown

abbrev pub no_sizes : Sizes
no_sizes = record { states = 0; actions = 0; lamps = 0; start = 0 }

-- the fold of M by a map that is one
abbrev pub folded : Meaning → List ℕ → ℕ → Meaning
folded M cs count = record {
  sizes = record { states = count; actions = actions M; lamps = lamps M; start = class_of cs M.sizes.start };
  kind = fold_kind M cs;
  light = fold_light M cs;
}

-- the fold of M; where the map is none, the system of no states
abbrev pub fold_meaning : Meaning → List ℕ → ℕ → Meaning
fold_meaning M cs count = cond (is_map M cs count) (folded M cs count) (blank no_sizes)
