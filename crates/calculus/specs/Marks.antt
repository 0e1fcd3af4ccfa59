-- What a formula means in a system, and how states are marked by it.
use Rattle.std.specs.Prelude.{◌≡◌, false, cond, ℕ}
use Rattle.systems.specs.Meaning.{Meaning, states}
use Rattle.calculus.specs.declared.syntax.Variable.{Variable}
use Rattle.calculus.specs.declared.syntax.Prefix.TheVariants.{Not, Diamond, Box, Least, Greatest}
use Rattle.calculus.specs.declared.syntax.Mark.{Mark}
use Rattle.calculus.specs.declared.syntax.Mark.TheVariants.{True, False, Unknown}
use Rattle.calculus.specs.Formula.{Formula, leaf, prefix, binary, at_variable}
use Rattle.calculus.specs.Pairs.{Pair, Same, Within, leaf_pair, not_pair, binary_pair, diamond_pair, box_pair}

-- The formula has the pair q in the system M, where its variables have the pairs that e gives them.
-- A least fixed point is the pair that the body maps to itself when the variable has it, and that
-- lies within every other such pair; a greatest one contains every other.
abbrev pub Means : Meaning → Formula → (Variable → Pair) → Pair → Type 0
Means M (leaf l) e q = Same (states M) q (leaf_pair M e l)
Means M (prefix Not f) e q = (p : Pair) × Means M f e p × Same (states M) q (not_pair p)
Means M (prefix (Diamond a) f) e q = (p : Pair) × Means M f e p × Same (states M) q (diamond_pair M a p)
Means M (prefix (Box a) f) e q = (p : Pair) × Means M f e p × Same (states M) q (box_pair M a p)
Means M (prefix (Least x) f) e q = Means M f (at_variable e x q) q × ((r : Pair) → Means M f (at_variable e x r) r → Within (states M) q r)
Means M (prefix (Greatest x) f) e q = Means M f (at_variable e x q) q × ((r : Pair) → Means M f (at_variable e x r) r → Within (states M) r q)
Means M (binary o f g) e q = (p : Pair) × (r : Pair) × Means M f e p × Means M g e r × Same (states M) q (binary_pair o p r)

-- in a closed formula no variable is read from outside
abbrev pub nothing : Variable → Pair
nothing x = record { necessary = λ s. false; possibly = λ s. false }

-- true where the state is in the necessary set, unknown where it is in the possible one alone, and
-- false where it is in neither
abbrev pub mark_of : Pair → ℕ → Mark
mark_of p s = cond (p.necessary s) True (cond (p.possibly s) Unknown False)

-- the state s of M is marked m by the closed formula f
abbrev pub Marked : Meaning → Formula → ℕ → Mark → Type 0
Marked M f s m = (p : Pair) × Means M f nothing p × (mark_of p s ≡ m)
