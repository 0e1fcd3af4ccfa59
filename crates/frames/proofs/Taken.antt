-- A table that holds what a system answers means that system.
use Rattle.std.proofs.Common.{◌≡◌, ℕ, Bool, true, ◌&&◌, get_or, ap, ◌∙◌, ap₂, arith}
use Rattle.std.proofs.lemmas.Bool.Decides.{nat_tests}
use Rattle.systems.specs.Meaning.{Meaning, Lawful, move_within, light_within}
use Rattle.systems.specs.Words.{possible, certain, known, is_on, is_off}
use Rattle.systems.specs.declared.kinds.Kind.{Kind}
use Rattle.systems.specs.declared.kinds.Light.{Light}
use Rattle.systems.specs.declared.places.Sizes.{Sizes}
use Rattle.frames.specs.Grids.{blank_row, no_lights, kind_of, light_of, frame_meaning}
use Rattle.frames.specs.Loads.{HoldsRow, HoldsLights}
use Rattle.frames.specs.declared.grid.Grid.{Grid}

the_kind : (k : Kind) (w : Bool) → (possible k ≡ true → w ≡ true) → kind_of (w && certain k) (w && possible k) ≡ k
the_kind k w within = grind (arith, nat_tests)

the_light : (v : Light) (w : Bool) → (known v ≡ true → w ≡ true) → light_of (w && is_on v) (w && is_off v) ≡ v
the_light v w within = grind (arith, nat_tests)

pub taken : (M : Meaning) (z : Sizes) (g : Grid) → Lawful M → z ≡ M.sizes
    → ((s : ℕ) → HoldsRow z M s (get_or g.rows s blank_row))
    → ((l : ℕ) → HoldsLights z M l (get_or g.lamps l no_lights))
    → frame_meaning z g ≡ M
taken M z g lawful is rows lamps i = record {
  sizes = is i;
  kind = λ s a t. (ap₂ kind_of (((rows s).each a).must t) (((rows s).each a).may t) ∙ the_kind (M.kind s a t) (move_within z s a t) (λ p. ap (λ y. move_within y s a t) is ∙ lawful.moves_within s a t p)) i;
  light = λ s l. (ap₂ light_of ((lamps l).on s) ((lamps l).off s) ∙ the_light (M.light s l) (light_within z s l) (λ p. ap (λ y. light_within y s l) is ∙ lawful.lights_within s l p)) i;
}
