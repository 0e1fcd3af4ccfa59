-- The abstraction of a system by a map, in words: with quantifiers over the members of a class.
use Rattle.std.specs.Prelude.{◌≡◌, ℕ, ◌<◌, Bool, true, ◌↔◌, List, nat_eq}
use Rattle.systems.specs.Meaning.{Meaning, states}
use Rattle.systems.specs.Refinement.{Refines}
use Rattle.systems.specs.Words.{possible, certain}
use Rattle.systems.specs.declared.kinds.Kind.{Kind}
use Rattle.systems.specs.declared.kinds.Light.TheVariants.{On, Off}
use Rattle.folds.specs.Folds.{class_of, fold_meaning, is_map}

pub record Member (M : Meaning) (cs : List ℕ) (a s : ℕ) : Type 0 where
  pub state : s < states M
  pub class : class_of cs s ≡ a

-- a move of the state s on x of a kind that passes enters the class b
pub record Enters (test : Kind → Bool) (M : Meaning) (cs : List ℕ) (s x b : ℕ) : Type 0 where
  pub target : ℕ
  pub move : test (M.kind s x target) ≡ true
  pub inside : Member M cs b target

-- F is exactly the abstraction of M by the classes cs, of which there are count
pub record Abstraction (M : Meaning) (cs : List ℕ) (count : ℕ) (F : Meaning) : Type 0 where
  pub states : F.sizes.states ≡ count
  pub actions : F.sizes.actions ≡ M.sizes.actions
  pub lamps : F.sizes.lamps ≡ M.sizes.lamps
  pub start : F.sizes.start ≡ class_of cs M.sizes.start
  pub possible_moves : (a x b : ℕ) →
      (possible (F.kind a x b) ≡ true) ↔ ((s : ℕ) × Member M cs a s × Enters possible M cs s x b)
  pub certain_moves : (a x b : ℕ) →
      (certain (F.kind a x b) ≡ true)
      ↔ ((possible (F.kind a x b) ≡ true) × ((s : ℕ) → Member M cs a s → Enters certain M cs s x b))
  pub lamps_on : (a l : ℕ) →
      (F.light a l ≡ On) ↔ (((s : ℕ) × Member M cs a s) × ((s : ℕ) → Member M cs a s → M.light s l ≡ On))
  pub lamps_off : (a l : ℕ) →
      (F.light a l ≡ Off) ↔ (((s : ℕ) × Member M cs a s) × ((s : ℕ) → Member M cs a s → M.light s l ≡ Off))

-- where the map is one, the fold is the abstraction, and joining every state to its class is a
-- refinement of the fold by the system
abbrev pub Exact : Meaning → List ℕ → ℕ → Type 0
Exact M cs count = is_map M cs count ≡ true → Abstraction M cs count (fold_meaning M cs count)

abbrev pub RefinedByClass : Meaning → List ℕ → ℕ → Type 0
RefinedByClass M cs count =
    is_map M cs count ≡ true → Refines M (fold_meaning M cs count) (λ c a. nat_eq (class_of cs c) a)
