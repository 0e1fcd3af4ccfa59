-- Words that hold a pair of sets of states.
use Rattle.std.specs.Prelude.{◌≡◌, ℕ, ◌<◌, Bool, true, ◌&&◌, nat_lt}
use Rattle.calculus.specs.Pairs.{Pair, Same}
use Rattle.sets.specs.Sets.{Set, has}
use Rattle.systems.specs.Meaning.{Meaning, states}
use Rattle.marking.specs.Evaluated.{word_pair}

-- a set has no number but those below n
abbrev pub Below : ℕ → Set → Type 0
Below n w = (s : ℕ) → has w s ≡ true → s < n

-- a set has just the numbers below n that pass
abbrev pub Filled : ℕ → (ℕ → Bool) → Set → Type 0
Filled n test w = (s : ℕ) → has w s ≡ (nat_lt s n && test s)

-- the words hold nothing but states
abbrev pub OnlyStates : Meaning → Set × Set → Type 0
OnlyStates M w = Below (states M) w.0 × Below (states M) w.1

-- the words are the two sets of the pair, among the states, and hold nothing but states
pub record Holds (M : Meaning) (p : Pair) (w : Set × Set) : Type 0 where
  pub same : Same (states M) (word_pair w) p
  pub only : OnlyStates M w
