-- The words of the three variables.
use Rattle.calculus.specs.Environments.{value_at}
use Rattle.calculus.specs.Formula.{Formula}
use Rattle.calculus.specs.Marks.{Means}
use Rattle.calculus.specs.Pairs.{Pair}
use Rattle.calculus.specs.declared.environment.Environment.{Environment}
use Rattle.calculus.specs.declared.syntax.Variable.{Variable}
use Rattle.sets.specs.Sets.{Set}
use Rattle.systems.specs.Meaning.{Meaning}
use Rattle.marking.specs.Evaluated.{word_pair}
use Rattle.marking.specs.Holding.{OnlyStates}

abbrev pub Values : Type 0
Values = Environment (Set × Set)

-- the pairs of the variables
abbrev pub values_of : Values → Variable → Pair
values_of v x = word_pair (value_at v x)

-- they hold nothing but states
abbrev pub ValuesOnly : Meaning → Values → Type 0
ValuesOnly M v = (x : Variable) → OnlyStates M (value_at v x)

-- the words are the pair of the formula where its variables have these words
pub record EvaluatesAt (M : Meaning) (f : Formula) (v : Values) (w : Set × Set) : Type 0 where
  pub means : Means M f (values_of v) (word_pair w)
  pub only : OnlyStates M w
