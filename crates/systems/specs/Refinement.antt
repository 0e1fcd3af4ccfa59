-- When one system refines another.
use Rattle.std.specs.Prelude.{◌≡◌, ℕ, ◌<◌, Bool, true}
use Rattle.systems.specs.Meaning.{Meaning, states, actions, lamps}
use Rattle.systems.specs.Words.{possible, certain, known}

-- the systems speak of the same actions and lamps
pub record Alike (C A : Meaning) : Type 0 where
  pub same_actions : actions C ≡ actions A
  pub same_lamps : lamps C ≡ lamps A

-- c is a state of C, a one of A, and the relation R joins them
pub record Joined (C A : Meaning) (R : ℕ → ℕ → Bool) (c a : ℕ) : Type 0 where
  pub lower : c < states C
  pub upper : a < states A
  pub related : R c a ≡ true

-- some certain move of C from c on the action x enters a state that is joined with a
pub record AnsweredCertain (C A : Meaning) (R : ℕ → ℕ → Bool) (c x a : ℕ) : Type 0 where
  pub target : ℕ
  pub move : certain (C.kind c x target) ≡ true
  pub joined : Joined C A R target a

-- some possible move of A from a on the action x enters a state that is joined with c
pub record AnsweredPossible (C A : Meaning) (R : ℕ → ℕ → Bool) (a x c : ℕ) : Type 0 where
  pub target : ℕ
  pub move : possible (A.kind a x target) ≡ true
  pub joined : Joined C A R c target

-- R shows that C, the lower system, refines A, the upper one: a light that A knows is C's light; a
-- certain move of A is answered by a certain move of C; a possible move of C by a possible one of A.
pub record Refines (C A : Meaning) (R : ℕ → ℕ → Bool) : Type 0 where
  pub lights : (c a l : ℕ) → Joined C A R c a → l < lamps A → known (A.light a l) ≡ true → C.light c l ≡ A.light a l
  pub certain_moves : (c a x t : ℕ) → Joined C A R c a → x < actions A → t < states A → certain (A.kind a x t) ≡ true → AnsweredCertain C A R c x t
  pub possible_moves : (c a x t : ℕ) → Joined C A R c a → x < actions A → t < states C → possible (C.kind c x t) ≡ true → AnsweredPossible C A R a x t
