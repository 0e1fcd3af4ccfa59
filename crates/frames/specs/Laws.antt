-- What holds of every system holds of one that is kept as a grid, where the grid keeps to its sizes.
use Rattle.std.specs.Prelude.{◌≡◌, ℕ, ◌<◌, ◌≤◌, Bool, true, false, refl}
use Rattle.std.proofs.Common.{arith}
use Rattle.std.proofs.lemmas.Bool.{false≢true}
use Rattle.sets.specs.Sets.{width}
use Rattle.systems.specs.Meaning.{Lawful, move_within, light_within}
use Rattle.systems.specs.Words.{possible, known}
use Rattle.systems.specs.declared.places.Sizes.{Sizes}
use Rattle.frames.specs.Grids.{may_at, must_at, on_at, off_at, kind_of, light_of, frame_meaning}
use Rattle.frames.specs.declared.grid.Grid.{Grid}
use Rattle.frames.specs.declared.frame.Frame.{Frame}

pub is_possible : (must may : Bool) →
    (must ≡ true → may ≡ true) → possible (kind_of must may) ≡ true → may ≡ true
is_possible true may certain p = certain refl
is_possible false true certain p = refl
is_possible false false certain p = p

pub is_known : {P : Type 0} (on off : Bool) →
    (on ≡ true → P) → (off ≡ true → P) → known (light_of on off) ≡ true → P
is_known true off by-on by-off p = by-on refl
is_known false true by-on by-off p = by-off refl
is_known false false by-on by-off p = absurd (false≢true p)

pub grid_lawful : (z : Sizes) (g : Grid) →
    0 < z.states → z.states ≤ width → z.actions ≤ 8 → z.lamps ≤ 8 → z.start < z.states →
    ((e : ℕ × ℕ × ℕ) → may_at g e.0 e.1 e.2 ≡ true → move_within z e.0 e.1 e.2 ≡ true) →
    ((e : ℕ × ℕ × ℕ) → must_at g e.0 e.1 e.2 ≡ true → may_at g e.0 e.1 e.2 ≡ true) →
    ((e : ℕ × ℕ) → on_at g e.0 e.1 ≡ true → light_within z e.0 e.1 ≡ true) →
    ((e : ℕ × ℕ) → off_at g e.0 e.1 ≡ true → light_within z e.0 e.1 ≡ true) →
    Lawful (frame_meaning z g)
grid_lawful z g some few actions lamps start moves certain on off = record {
  few_states = omega (arith, few);
  few_actions = actions;
  few_lamps = lamps;
  started = λ _. start;
  without_states = λ none. absurd (omega (arith, some));
  moves_within = λ s a t p. moves (s, a, t) (is_possible (must_at g s a t) (may_at g s a t) (certain (s, a, t)) p);
  lights_within = λ s l p. is_known (on_at g s l) (off_at g s l) (on (s, l)) (off (s, l)) p;
}

pub lawful : (f : Frame) → Lawful (frame_meaning f.bounds.sizes f.grid)
lawful f =
    let b = f.bounds in
    grid_lawful b.sizes f.grid b.some_states b.few_states b.few_actions b.few_lamps b.started
    f.moves_within f.certain_possible f.on_within f.off_within
