-- What the evaluation of a formula over a frame answers.
use Rattle.std.specs.Prelude.{◌≡◌, ℕ, ◌<◌, true}
use Rattle.calculus.specs.Formula.{Formula}
use Rattle.calculus.specs.Marks.{Means, nothing}
use Rattle.calculus.specs.Pairs.{Pair}
use Rattle.sets.specs.Sets.{Set, has}
use Rattle.systems.specs.Meaning.{Meaning, states}

-- a pair of words as a pair of sets of states
abbrev pub word_pair : Set × Set → Pair
word_pair w = record { necessary = has w.0; possibly = has w.1 }

-- the words are the necessary and the possible set of the formula, and hold nothing but states
pub record Evaluates (M : Meaning) (f : Formula) (w : Set × Set) : Type 0 where
  pub means : Means M f nothing (word_pair w)
  pub necessary_states : (s : ℕ) → has w.0 s ≡ true → s < states M
  pub possible_states : (s : ℕ) → has w.1 s ≡ true → s < states M
