-- A fixed point found step by step: each pair is what the body means at the one before, until two
-- are equal.
use Rattle.std.proofs.Common.{◌≡◌, ℕ, true}
use Rattle.systems.specs.Meaning.{Meaning, states}
use Rattle.calculus.specs.declared.syntax.Variable.{Variable}
use Rattle.calculus.specs.declared.syntax.Prefix.{Prefix}
use Rattle.calculus.specs.declared.syntax.Prefix.TheVariants.{Least, Greatest}
use Rattle.calculus.specs.Formula.{Formula, prefix, at_variable, closed_under, within_letters}
use Rattle.calculus.specs.declared.syntax.Standing.{Standing}
use Rattle.calculus.specs.declared.syntax.Standing.TheVariants.{Even}
use Rattle.calculus.specs.Pairs.{Pair, Same}
use Rattle.calculus.specs.Marks.{Means}
use Rattle.logic.proofs.Counting.{Growth}
use Rattle.logic.proofs.Existence.{means_monotone}
use Rattle.logic.proofs.Fixed.{Direction, rising, falling, Toward, origin, size, size_grows, toward_origin, toward_trans, toward_from_same}
use Rattle.logic.proofs.Monotone.{ordered_at}
use Rattle.logic.proofs.Pairs.{same_refl, same_sym}
use Rattle.logic.proofs.Unique.{means_same}

-- upwards to the least fixed point, downwards to the greatest
abbrev pub binder : Direction → Variable → Prefix
binder rising x = Least x
binder falling x = Greatest x

-- p is on the way from the origin to the fixed point, and p' comes next
pub record Step (d : Direction) (M : Meaning) (f : Formula) (e : Variable → Pair) (x : Variable) (p p' : Pair) : Type 0 where
  pub before : (r : Pair) → Means M f (at_variable e x r) r → Toward d (states M) p r
  pub onward : Toward d (states M) p p'
  pub means : Means M f (at_variable e x p) p'

pub step_grows : {d : Direction} {M : Meaning} {f : Formula} {e : Variable → Pair} {x : Variable} {p p' : Pair} → Step d M f e x p p' → Growth (Same (states M) p p') (size d (states M) p) (size d (states M) p')
step_grows {d} {M} {p = p} {p'} step = size_grows d (states M) p p' step.onward

pub first_step : (d : Direction) (M : Meaning) (f : Formula) (e : Variable → Pair) (x : Variable) (p p' : Pair) → Same (states M) p (origin d) → Means M f (at_variable e x p) p' → Step d M f e x p p'
first_step d M f e x p p' h m = record { before = λ r fixed. from_origin r; onward = from_origin p'; means = m }
  where
    from_origin : (r : Pair) → Toward d (states M) p r
    from_origin r = toward_trans d (states M) p (origin d) r (toward_from_same d (states M) p (origin d) h) (toward_origin d (states M) r)

-- Two equal pairs in a row are the fixed point.
pub last_step : (d : Direction) (M : Meaning) (f : Formula) (e : Variable → Pair) (x : Variable) (p p' : Pair) → Step d M f e x p p' → Same (states M) p p' → Means M (prefix (binder d x) f) e p
last_step rising M f e x p p' step rest = (means_same M f (at_variable e x p) (at_variable e x p) p' p (λ y. same_refl (states M) (at_variable e x p y)) (same_sym (states M) p p' rest) step.means, step.before)
last_step falling M f e x p p' step rest = (means_same M f (at_variable e x p) (at_variable e x p) p' p (λ y. same_refl (states M) (at_variable e x p y)) (same_sym (states M) p p' rest) step.means, step.before)

module _ (k l : ℕ) (M : Meaning) (f : Formula) (st : Variable → Standing) (e : Variable → Pair) (x : Variable) (cl : closed_under (at_variable st x Even) f ≡ true) (wl : within_letters k l f ≡ true) where
  toward_means : (d : Direction) (p q p' q' : Pair) → Toward d (states M) p q → Means M f (at_variable e x p) p' → Means M f (at_variable e x q) q' → Toward d (states M) p' q'
  toward_means rising p q p' q' h m m' = means_monotone k l M f (at_variable st x Even) cl wl (at_variable e x p) (at_variable e x q) (ordered_at (states M) st e x p q h) p' q' m m'
  toward_means falling p q p' q' h m m' = means_monotone k l M f (at_variable st x Even) cl wl (at_variable e x q) (at_variable e x p) (ordered_at (states M) st e x q p h) q' p' m' m

  pub next_step : (d : Direction) (p p' p'' : Pair) → Step d M f e x p p' → Means M f (at_variable e x p') p'' → Step d M f e x p' p''
  next_step d p p' p'' step m = record {
    before = λ r fixed. toward_means d p r p' r (step.before r fixed) step.means fixed;
    onward = toward_means d p p' p' p'' step.onward step.means m;
    means = m;
  }
