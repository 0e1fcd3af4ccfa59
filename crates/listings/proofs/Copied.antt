-- The part of a system that stands at some places, and nothing elsewhere.
use Rattle.std.proofs.Common.{◌≡◌, ℕ, Bool, true, cond, ◌&&◌, ◌||◌, eqb, refl, arith}
use Rattle.std.proofs.lemmas.Bool.Decides.{nat_tests}
use Rattle.systems.specs.Meaning.{Meaning, Lawful, with_move, with_light, move_within, light_within}
use Rattle.systems.specs.Words.{possible, known}
use Rattle.systems.specs.declared.kinds.Kind.{Kind}
use Rattle.systems.specs.declared.kinds.Kind.TheVariants.{Absent, Optional, Certain}
use Rattle.systems.specs.declared.kinds.Light.{Light}
use Rattle.systems.specs.declared.kinds.Light.TheVariants.{Unknown, On, Off}
use Rattle.systems.specs.declared.places.Move.{Move}
use Rattle.systems.specs.declared.places.LampAt.{LampAt}

-- M with those of its moves that p names and those of its lights that q names
abbrev pub copied : (Move → Bool) → (LampAt → Bool) → Meaning → Meaning
copied p q M = record {
  sizes = M.sizes;
  kind = λ s a t. cond (p (record { from = s; action = a; to = t })) (M.kind s a t) Absent;
  light = λ s l. cond (q (record { state = s; lamp = l })) (M.light s l) Unknown;
}

-- B with those of M's lights that q names
abbrev pub lit_from : (LampAt → Bool) → Meaning → Meaning → Meaning
lit_from q M B = record {
  sizes = B.sizes;
  kind = B.kind;
  light = λ s l. cond (q (record { state = s; lamp = l })) (M.light s l) (B.light s l);
}

-- all places within the sizes, and one place
abbrev pub moves_in : Meaning → Move → Bool
moves_in M x = move_within M.sizes x.from x.action x.to

abbrev pub lights_in : Meaning → LampAt → Bool
lights_in M x = light_within M.sizes x.state x.lamp

abbrev pub that_move : Move → Move → Bool
that_move at x = eqb x.from at.from && eqb x.action at.action && eqb x.to at.to

abbrev pub that_light : LampAt → LampAt → Bool
that_light at x = eqb x.state at.state && eqb x.lamp at.lamp

-- a table at one place more
move_added : {V : Type 0} (f : ℕ → ℕ → ℕ → V) (none : V) (p : Bool) (s a t x b y : ℕ) → cond (eqb x s && eqb b a && eqb y t) (f s a t) (cond p (f x b y) none) ≡ cond (p || (eqb x s && eqb b a && eqb y t)) (f x b y) none
move_added f none p s a t x b y = grind (arith, nat_tests)

light_added : {V : Type 0} (f : ℕ → ℕ → V) (none : V) (p : Bool) (s l x m : ℕ) → cond (eqb x s && eqb m l) (f s l) (cond p (f x m) none) ≡ cond (p || (eqb x s && eqb m l)) (f x m) none
light_added f none p s l x m = grind (arith, nat_tests)

module _ (M : Meaning) (p : Move → Bool) (q : LampAt → Bool) where
  pub one_move : (at : Move) → with_move (copied p q M) at.from at.action at.to (M.kind at.from at.action at.to) ≡ copied (λ x. p x || that_move at x) q M
  one_move at i = record {
    sizes = M.sizes;
    kind = λ s a t. move_added M.kind Absent (p (record { from = s; action = a; to = t })) at.from at.action at.to s a t i;
    light = (copied p q M).light;
  }

module _ (M B : Meaning) (q : LampAt → Bool) where
  pub one_light : (at : LampAt) → with_light (lit_from q M B) at.state at.lamp (M.light at.state at.lamp) ≡ lit_from (λ x. q x || that_light at x) M B
  one_light at i = record {
    sizes = B.sizes;
    kind = B.kind;
    light = λ s l. light_added M.light (B.light s l) (q (record { state = s; lamp = l })) at.state at.lamp s l i;
  }

-- where all places are named, an entry that is written again changes nothing
module _ (X : Meaning) where
  pub same_move : (at : Move) → with_move X at.from at.action at.to (X.kind at.from at.action at.to) ≡ X
  same_move at = one_move X (λ _. true) (λ _. true) at

  pub same_light : (at : LampAt) → with_light X at.state at.lamp (X.light at.state at.lamp) ≡ X
  same_light at = one_light X X (λ _. true) at

absent_there : (k : Kind) (w : Bool) → (possible k ≡ true → w ≡ true) → cond w k Absent ≡ k
absent_there Absent w within = grind (arith, nat_tests)
absent_there Optional w within = rw (within refl)
absent_there Certain w within = rw (within refl)

unknown_there : (v : Light) (w : Bool) → (known v ≡ true → w ≡ true) → cond w v Unknown ≡ v
unknown_there Unknown w within = grind (arith, nat_tests)
unknown_there On w within = rw (within refl)
unknown_there Off w within = rw (within refl)

-- all that lies within the sizes is the whole system
pub all_copied : (M : Meaning) → Lawful M → copied (moves_in M) (lights_in M) M ≡ M
all_copied M lawful i = record {
  sizes = M.sizes;
  kind = λ s a t. absent_there (M.kind s a t) (move_within M.sizes s a t) (lawful.moves_within s a t) i;
  light = λ s l. unknown_there (M.light s l) (light_within M.sizes s l) (lawful.lights_within s l) i;
}
