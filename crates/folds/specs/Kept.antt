-- A fold of a system is a system.
use Rattle.std.specs.Prelude.{◌≡◌, ℕ, ◌<◌, true, List, Decides, refl}
use Rattle.std.proofs.Common.{ap, ⊎_elim, arith}
use Rattle.std.proofs.lemmas.Bool.{false≢true, cond_both}
use Rattle.std.proofs.lemmas.Bool.Decides.{Decides-and, Decides-ltb}
use Rattle.systems.specs.Meaning.{Meaning, Lawful, states, actions, blank, move_within, light_within}
use Rattle.systems.specs.Words.{possible, known}
use Rattle.systems.specs.declared.places.Sizes.{Sizes}
use Rattle.folds.specs.Folds.{is_map, folded, fold_meaning, no_sizes}
use Rattle.folds.specs.Readings.{Member, Abstraction}
use Rattle.folds.specs.Abstracted.{abstraction}
use Rattle.folds.specs.Mapped.{Mapping, map_decides, class_below}
use Rattle.folds.specs.Words.{known_of}

no_states : Lawful (blank no_sizes)
no_states = record {
  few_states = omega arith;
  few_actions = omega arith;
  few_lamps = omega arith;
  started = λ h. h;
  without_states = λ e. (refl, refl, refl);
  moves_within = λ s a t h. absurd (false≢true h);
  lights_within = λ s l h. absurd (false≢true h);
}

move_decides : (z : Sizes) (s a t : ℕ) →
    Decides (move_within z s a t) (((s < z.states) × (a < z.actions)) × (t < z.states))
move_decides z s a t =
    Decides-and _ _ (Decides-and _ _ (Decides-ltb s z.states) (Decides-ltb a z.actions)) (Decides-ltb t z.states)

light_decides : (z : Sizes) (s l : ℕ) → Decides (light_within z s l) ((s < z.states) × (l < z.lamps))
light_decides z s l = Decides-and _ _ (Decides-ltb s z.states) (Decides-ltb l z.lamps)

module _
    (M : Meaning) (cs : List ℕ) (count : ℕ) (F : Meaning) (lawful : Lawful M) (map : Mapping M cs count)
    (is : Abstraction M cs count F) where
  -- the class of a state is a state of the fold
  state_of : (a s : ℕ) → Member M cs a s → a < states F
  state_of a s m = omega (arith, class_below M cs count lawful map s m.state, m.class, is.states)

  moves_kept : (a x b : ℕ) → possible (F.kind a x b) ≡ true → move_within F.sizes a x b ≡ true
  moves_kept a x b h =
      let found = (is.possible_moves a x b).0 h in
      let e = found.2 in
      let within = (move_decides M.sizes found.0 x e.target).0 (lawful.moves_within found.0 x e.target e.move) in
      let letter : x < actions F = omega (arith, within.0.1, is.actions) in
      (move_decides F.sizes a x b).1 ((state_of a found.0 found.1, letter), state_of b e.target e.inside)

  -- a lamp that a member knows is a lamp
  lamp_kept : (a l s : ℕ) → Member M cs a s → known (M.light s l) ≡ true → light_within F.sizes a l ≡ true
  lamp_kept a l s m h =
      let within = (light_decides M.sizes s l).0 (lawful.lights_within s l h) in
      (light_decides F.sizes a l).1 (state_of a s m, omega (arith, within.1, is.lamps))

  lights_kept : (a l : ℕ) → known (F.light a l) ≡ true → light_within F.sizes a l ≡ true
  lights_kept a l h =
      ⊎_elim
      (λ on. let all = (is.lamps_on a l).0 on in lamp_kept a l all.0.0 all.0.1 (ap known (all.1 all.0.0 all.0.1)))
      (λ off. let all = (is.lamps_off a l).0 off in lamp_kept a l all.0.0 all.0.1 (ap known (all.1 all.0.0 all.0.1)))
      (known_of (F.light a l) h)

  kept : Lawful F
  kept =
      let start = class_below M cs count lawful map M.sizes.start (lawful.started map.inhabited) in
      record {
        few_states = omega (arith, is.states, map.few);
        few_actions = omega (arith, is.actions, lawful.few_actions);
        few_lamps = omega (arith, is.lamps, lawful.few_lamps);
        started = λ h. omega (arith, start, is.start, is.states);
        without_states = λ e. absurd (omega (arith, e, is.states, map.some));
        moves_within = moves_kept;
        lights_within = lights_kept;
      }

pub fold_lawful : (M : Meaning) (cs : List ℕ) (count : ℕ) → Lawful M → Lawful (fold_meaning M cs count)
fold_lawful M cs count lawful =
    cond_both (is_map M cs count) (folded M cs count) (blank no_sizes) (λ F. Lawful F)
    (λ e. kept M cs count (folded M cs count) lawful ((map_decides M cs count).0 e) (abstraction M cs count))
    (λ e. no_states)
