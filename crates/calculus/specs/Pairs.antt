-- Pairs of sets of states, and what the signs of formulas do to them.
use Rattle.std.specs.Prelude.{◌≡◌, Bool, true, false, not, ◌&&◌, ◌||◌, ℕ, ◌<◌}
use Rattle.systems.specs.Bounded.{any, all}
use Rattle.systems.specs.Meaning.{Meaning, states}
use Rattle.systems.specs.Words.{possible, certain, is_on, is_off}
use Rattle.calculus.specs.declared.syntax.Variable.{Variable}
use Rattle.calculus.specs.declared.syntax.Leaf.{Leaf}
use Rattle.calculus.specs.declared.syntax.Leaf.TheVariants.{True, False, Lamp, Var}
use Rattle.calculus.specs.declared.syntax.Binary.{Binary}
use Rattle.calculus.specs.declared.syntax.Binary.TheVariants.{And, Or}

-- the states where a formula holds necessarily, and those where it holds possibly
pub record Pair : Type 0 where
  pub necessary : ℕ → Bool
  pub possibly : ℕ → Bool

-- equal, and contained, set by set, among the states below n
abbrev pub Same : ℕ → Pair → Pair → Type 0
Same n p q = (s : ℕ) → s < n → (p.necessary s ≡ q.necessary s) × (p.possibly s ≡ q.possibly s)

abbrev pub Within : ℕ → Pair → Pair → Type 0
Within n p q = (s : ℕ) → s < n → (p.necessary s ≡ true → q.necessary s ≡ true) × (p.possibly s ≡ true → q.possibly s ≡ true)

-- a lamp holds necessarily where it is on, and possibly where it is on or unknown
abbrev pub leaf_pair : Meaning → (Variable → Pair) → Leaf → Pair
leaf_pair M e True = record { necessary = λ s. true; possibly = λ s. true }
leaf_pair M e False = record { necessary = λ s. false; possibly = λ s. false }
leaf_pair M e (Lamp l) = record { necessary = λ s. is_on (M.light s l); possibly = λ s. not (is_off (M.light s l)) }
leaf_pair M e (Var x) = e x

-- outside the possible set, then outside the necessary one
abbrev pub not_pair : Pair → Pair
not_pair p = record { necessary = λ s. not (p.possibly s); possibly = λ s. not (p.necessary s) }

abbrev pub binary_pair : Binary → Pair → Pair → Pair
binary_pair And p q = record { necessary = λ s. p.necessary s && q.necessary s; possibly = λ s. p.possibly s && q.possibly s }
binary_pair Or p q = record { necessary = λ s. p.necessary s || q.necessary s; possibly = λ s. p.possibly s || q.possibly s }

-- some certain move enters the necessary set; some possible move enters the possible one
abbrev pub diamond_pair : Meaning → ℕ → Pair → Pair
diamond_pair M a p = record {
  necessary = λ s. any (states M) (λ t. certain (M.kind s a t) && p.necessary t);
  possibly = λ s. any (states M) (λ t. possible (M.kind s a t) && p.possibly t);
}

-- every possible move enters the necessary set; every certain move enters the possible one
abbrev pub box_pair : Meaning → ℕ → Pair → Pair
box_pair M a p = record {
  necessary = λ s. all (states M) (λ t. not (possible (M.kind s a t)) || p.necessary t);
  possibly = λ s. all (states M) (λ t. not (certain (M.kind s a t)) || p.possibly t);
}
