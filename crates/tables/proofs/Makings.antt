-- What is made in a table, one entry later.
use Rattle.std.proofs.Common.{◌≡◌, ℕ, pred, ◌+◌, ◌-◌, ◌<◌, true, false, cond, ◌&&◌, eqb, List, length, set, Some, None, Ok, Err, Option, refl, arith}
use Rattle.std.proofs.lemmas.Bool.Decides.{nat_tests}
use Rattle.std.proofs.lemmas.List.{length-set}
use Rattle.systems.specs.Edits.{Answer, after, move_place_answer, lamp_place_answer}
use Rattle.systems.specs.Making.{room_answer, moved, lit}
use Rattle.systems.specs.Meaning.{move_within, light_within}
use Rattle.systems.specs.Words.{possible, known, drawn, shown}
use Rattle.systems.specs.declared.kinds.Kind.TheVariants.{Absent}
use Rattle.systems.specs.declared.kinds.Light.TheVariants.{Unknown}
use Rattle.systems.specs.declared.kinds.Modality.{Modality}
use Rattle.systems.specs.declared.kinds.Setting.{Setting}
use Rattle.systems.specs.declared.places.LampAt.{LampAt}
use Rattle.systems.specs.declared.places.Move.{Move}
use Rattle.systems.specs.declared.places.Sizes.{Sizes}
use Rattle.systems.specs.Entries.{MoveEntry, LightEntry}
use Rattle.tables.specs.Entries.{usable, same_move, same_lamp, kind_said, light_said, table_meaning, table_making}
use Rattle.tables.specs.Tables.{entry}
use Rattle.tables.proofs.Firsts.{one_more_set}

same_move_is : (p q : Move) → same_move p q ≡ true → p ≡ q
same_move_is p q h = grind (arith, nat_tests)

same_lamp_is : (p q : LampAt) → same_lamp p q ≡ true → p ≡ q
same_lamp_is p q h = grind (arith, nat_tests)

kind_drawn : (z : Sizes) (p : Move) (m : Modality) (o n : Option Modality) (s a t : ℕ) → move_place_answer z p.from p.action p.to ≡ Ok tt → n ≡ cond (same_move p (record { from = s; action = a; to = t })) (Some m) o → cond (move_within z s a t) (kind_said n) Absent ≡ cond (eqb s p.from && eqb a p.action && eqb t p.to) (drawn m) (cond (move_within z s a t) (kind_said o) Absent)
kind_drawn z p m o n s a t within e = grind (arith, nat_tests)

light_shown : (z : Sizes) (p : LampAt) (v : Setting) (o n : Option Setting) (s l : ℕ) → lamp_place_answer z p.state p.lamp ≡ Ok tt → n ≡ cond (same_lamp p (record { state = s; lamp = l })) (Some v) o → cond (light_within z s l) (light_said n) Unknown ≡ cond (eqb s p.state && eqb l p.lamp) (shown v) (cond (light_within z s l) (light_said o) Unknown)
light_shown z p v o n s l within e = grind (arith, nat_tests)

-- nothing is said of a place within the sizes that is free so far
move_unsaid : (z : Sizes) (p : Move) (o : Option Modality) → move_place_answer z p.from p.action p.to ≡ Ok tt → possible (cond (move_within z p.from p.action p.to) (kind_said o) Absent) ≡ false → o ≡ None
move_unsaid z p o within free = grind (arith, nat_tests)

lamp_unsaid : (z : Sizes) (p : LampAt) (o : Option Setting) → lamp_place_answer z p.state p.lamp ≡ Ok tt → known (cond (light_within z p.state p.lamp) (light_said o) Unknown) ≡ false → o ≡ None
lamp_unsaid z p o within free = grind (arith, nat_tests)

module _ {E : Type 0} (es : List E) (i : ℕ) (e : E) where
  place_left : Ok tt ≡ room_answer (Some (usable es - i)) → i < length es
  place_left h = grind (arith, nat_tests)

  same_capacity : usable (set es i e) ≡ usable es
  same_capacity = simp length-set

  one_place_fewer : usable (set es i e) - (i + 1) ≡ pred (usable es - i)
  one_place_fewer = simp length-set (omega arith)

module _ (z : Sizes) (ms : List MoveEntry) (i : ℕ) (ls : List LightEntry) (j : ℕ) where
  pub takes_move : (p : Move) (m : Modality) → move_place_answer z p.from p.action p.to ≡ Ok tt → possible ((table_meaning z ms i ls j).kind p.from p.action p.to) ≡ false → (r : Answer) (ns : List MoveEntry) (n : ℕ) → r ≡ room_answer (Some (usable ms - i)) → ns ≡ after r (set ms i (entry p m)) ms → n ≡ after r (i + 1) i → table_making z ns n ls j ≡ after r (moved (table_making z ms i ls j) p.from p.action p.to (drawn m)) (table_making z ms i ls j)
  takes_move p m within free (Err e) ns n room is used = rw (is, used) refl
  takes_move p m within free (Ok u) ns n room is used =
      rw (is, used) λ k. let unsaid = move_unsaid z p _ within free in
      record {
        system = record {
          sizes = z;
          kind = λ s a t. kind_drawn z p m _ _ s a t within (one_more_set same_move p m (same_move_is p) ms i (place_left ms i (entry p m) room) unsaid _) k;
          light = (table_meaning z ms i ls j).light;
        };
        most = 256;
        capacity = record { moves = Some (same_capacity ms i (entry p m) k); lights = Some (usable ls) };
        places = record { moves = Some (one_place_fewer ms i (entry p m) k); lights = Some (usable ls - j) };
      }

  pub takes_light : (p : LampAt) (v : Setting) → lamp_place_answer z p.state p.lamp ≡ Ok tt → known ((table_meaning z ms i ls j).light p.state p.lamp) ≡ false → (r : Answer) (ns : List LightEntry) (n : ℕ) → r ≡ room_answer (Some (usable ls - j)) → ns ≡ after r (set ls j (entry p v)) ls → n ≡ after r (j + 1) j → table_making z ms i ns n ≡ after r (lit (table_making z ms i ls j) p.state p.lamp (shown v)) (table_making z ms i ls j)
  takes_light p v within free (Err e) ns n room is used = rw (is, used) refl
  takes_light p v within free (Ok u) ns n room is used =
      rw (is, used) λ k. let unsaid = lamp_unsaid z p _ within free in
      record {
        system = record {
          sizes = z;
          kind = (table_meaning z ms i ls j).kind;
          light = λ s l. light_shown z p v _ _ s l within (one_more_set same_lamp p v (same_lamp_is p) ls j (place_left ls j (entry p v) room) unsaid _) k;
        };
        most = 256;
        capacity = record { moves = Some (usable ms); lights = Some (same_capacity ls j (entry p v) k) };
        places = record { moves = Some (usable ms - i); lights = Some (one_place_fewer ls j (entry p v) k) };
      }
