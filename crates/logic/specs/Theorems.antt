-- What is proved of marks and refinement, for all systems with any number of states and for all
-- formulas.
use Rattle.std.specs.Prelude.{◌≡◌, ℕ, ◌<◌, Bool, true, ◌↔◌, nat_eq}
use Rattle.systems.specs.Meaning.{Meaning, states, actions, lamps, with_move, with_light}
use Rattle.systems.specs.Refinement.{Alike, Joined, Refines}
use Rattle.systems.specs.Words.{possible, certain, known}
use Rattle.systems.specs.declared.kinds.Kind.{Kind}
use Rattle.systems.specs.declared.kinds.Kind.TheVariants.{Optional}
use Rattle.systems.specs.declared.kinds.Light.{Light}
use Rattle.systems.specs.declared.kinds.Light.TheVariants.{Unknown}
use Rattle.calculus.specs.declared.syntax.Mark.{Mark}
use Rattle.calculus.specs.declared.syntax.Mark.TheVariants.{True, False}
use Rattle.calculus.specs.Formula.{Formula, closed, within_letters}
use Rattle.calculus.specs.Pairs.{Pair, Same}
use Rattle.calculus.specs.Marks.{Means, Marked, nothing}

-- a closed formula over the letters of M
pub record Question (M : Meaning) (f : Formula) : Type 0 where
  pub bound : closed f ≡ true
  pub lettered : within_letters (actions M) (lamps M) f ≡ true

-- a mark that answers the question
pub data Settled : Mark → Type 0 where
  as_true : Settled True
  as_false : Settled False

-- Every closed formula has a pair, and only one.
abbrev pub OnePair : Type 0
OnePair = (M : Meaning) (f : Formula) → Question M f → (p : Pair) × Means M f nothing p × ((q : Pair) → Means M f nothing q → Same (states M) p q)

-- every formula true or false at the state a of A has that mark at the state c of C
abbrev pub Carries : Meaning → ℕ → Meaning → ℕ → Type 0
Carries A a C c = (f : Formula) → Question A f → (m : Mark) → Settled m → Marked A f a m → Marked C f c m

-- every formula true at the state a of A is true at the state c of C
abbrev pub CarriesTrue : Meaning → ℕ → Meaning → ℕ → Type 0
CarriesTrue A a C c = (f : Formula) → Question A f → Marked A f a True → Marked C f c True

-- every formula marks the state c of C and the state a of A alike
abbrev pub EqualMarks : Meaning → ℕ → Meaning → ℕ → Type 0
EqualMarks C c A a = (f : Formula) → Question A f → (m : Mark) → Marked C f c m ↔ Marked A f a m

-- some refinement of A by C joins c and a
abbrev pub Refined : Meaning → ℕ → Meaning → ℕ → Type 0
Refined C c A a = (R : ℕ → ℕ → Bool) × Refines C A R × Joined C A R c a

-- A refinement carries true and false from each upper state to the states joined below it.
abbrev pub Preservation : Type 0
Preservation = (C A : Meaning) → Alike C A → (c a : ℕ) → Refined C c A a → Carries A a C c

-- Where true carries over, some refinement joins the states.
abbrev pub Characterisation : Type 0
Characterisation = (C A : Meaning) → Alike C A → (c a : ℕ) → c < states C → a < states A → CarriesTrue A a C c → Refined C c A a

-- States have equal marks exactly when refinements in both directions join them.
abbrev pub Equality : Type 0
Equality = (C A : Meaning) → Alike C A → (c a : ℕ) → c < states C → a < states A → EqualMarks C c A a ↔ (Refined C c A a × Refined A a C c)

-- Making an optional move certain or absent, or an unknown lamp known, refines the system, by joining equal numbers.
pub record Tightening : Type 0 where
  pub move : (M : Meaning) (s x t : ℕ) (k : Kind) → M.kind s x t ≡ Optional → Refines (with_move M s x t k) M nat_eq
  pub light : (M : Meaning) (s l : ℕ) (v : Light) → M.light s l ≡ Unknown → Refines (with_light M s l v) M nat_eq

-- a system obtained from another by any number of such steps
pub data Tightened (M : Meaning) : Meaning → Type 0 where
  same : Tightened M M
  moved : {N : Meaning} {s x t : ℕ} → (k : Kind) → Tightened M N → N.kind s x t ≡ Optional → Tightened M (with_move N s x t k)
  lit : {N : Meaning} {s l : ℕ} → (v : Light) → Tightened M N → N.light s l ≡ Unknown → Tightened M (with_light N s l v)

-- No true or false is lost by tightening.
abbrev pub Kept : Type 0
Kept = (M N : Meaning) → Tightened M N → (s : ℕ) → s < states M → Carries M s N s

-- The necessary set lies within the possible one.
abbrev pub Consistency : Type 0
Consistency = (M : Meaning) (f : Formula) → Question M f → (p : Pair) → Means M f nothing p → (s : ℕ) → s < states M → p.necessary s ≡ true → p.possibly s ≡ true

-- no optional move and no unknown lamp
pub record Definite (M : Meaning) : Type 0 where
  pub moves : (s x t : ℕ) → s < states M → x < actions M → t < states M → possible (M.kind s x t) ≡ certain (M.kind s x t)
  pub lights : (s l : ℕ) → s < states M → l < lamps M → known (M.light s l) ≡ true

-- In a definite system the two sets are equal: every formula is true or false.
abbrev pub Definiteness : Type 0
Definiteness = (M : Meaning) (f : Formula) → Definite M → Question M f → (p : Pair) → Means M f nothing p → (s : ℕ) → s < states M → p.necessary s ≡ p.possibly s
