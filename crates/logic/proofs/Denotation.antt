-- The pair of a formula, computed: a fixed point is the body iterated, from no state for the least
-- and from every state for the greatest.
use Rattle.std.proofs.Common.{ℕ, zero, suc, true, false}
use Rattle.systems.specs.Meaning.{Meaning}
use Rattle.calculus.specs.declared.syntax.Variable.{Variable}
use Rattle.calculus.specs.declared.syntax.Prefix.TheVariants.{Not, Diamond, Box, Least, Greatest}
use Rattle.calculus.specs.Formula.{Formula, leaf, prefix, binary, at_variable}
use Rattle.calculus.specs.Pairs.{Pair, leaf_pair, not_pair, binary_pair, diamond_pair, box_pair}

-- g, n times, from p
abbrev pub iterate : {A : Type 0} → ℕ → (A → A) → A → A
iterate zero g p = p
iterate (suc n) g p = g (iterate n g p)

abbrev pub none : Pair
none = record { necessary = λ s. false; possibly = λ s. false }

abbrev pub every : Pair
every = record { necessary = λ s. true; possibly = λ s. true }

-- the pair of a formula in M, with each fixed point iterated n times
abbrev pub pair_at : ℕ → Meaning → Formula → (Variable → Pair) → Pair
pair_at n M (leaf l) e = leaf_pair M e l
pair_at n M (prefix Not f) e = not_pair (pair_at n M f e)
pair_at n M (prefix (Diamond a) f) e = diamond_pair M a (pair_at n M f e)
pair_at n M (prefix (Box a) f) e = box_pair M a (pair_at n M f e)
pair_at n M (prefix (Least x) f) e = iterate n (λ p. pair_at n M f (at_variable e x p)) none
pair_at n M (prefix (Greatest x) f) e = iterate n (λ p. pair_at n M f (at_variable e x p)) every
pair_at n M (binary o f g) e = binary_pair o (pair_at n M f e) (pair_at n M g e)
