-- The iteration of a binder: how it starts, goes on and ends.
use Rattle.std.proofs.Common.{◌≡◌, ℕ, ◌-◌, ◌*◌, ◌<◌, Bool, cond, ap, ◌∙◌, ⊎_elim, arith}
use Rattle.calculus.specs.Environments.{value_at}
use Rattle.calculus.specs.declared.syntax.Variable.{Variable}
use Rattle.calculus.specs.Formula.{Formula, same, prefix, at_variable}
use Rattle.calculus.specs.declared.syntax.Standing.TheVariants.{Even}
use Rattle.calculus.specs.Marks.{Means}
use Rattle.calculus.specs.Pairs.{Pair, Same}
use Rattle.logic.proofs.Fixed.{Direction, Toward, size, size_within}
use Rattle.logic.proofs.Iteration.{Step, binder, step_grows, next_step, last_step}
use Rattle.sets.specs.Sets.{Set, has}
use Rattle.systems.specs.Meaning.{Meaning, states}
use Rattle.marking.specs.Evaluated.{word_pair}
use Rattle.marking.specs.Holding.{OnlyStates}
use Rattle.marking.specs.Values.{Values, values_of, ValuesOnly, EvaluatesAt}
use Rattle.logic.proofs.Denotation.{pair_at}
use Rattle.logic.proofs.Existence.{computed}
use Rattle.marking.specs.Standing.{ClosedPart}
use Rattle.marking.proofs.Binders.{body_closed}
use Rattle.marking.proofs.Letters.{lettered}

-- in the iteration of the binder of x, with the body f, the words are a pair on the way to the
-- fixed point
pub record Reached (d : Direction) (M : Meaning) (f : Formula) (v : Values) (x : Variable) (w : Set × Set) : Type 0 where
  pub before : (r : Pair) → Means M f (at_variable (values_of v) x r) r → Toward d (states M) (word_pair w) r
  pub onward : (r : Pair) → Means M f (at_variable (values_of v) x (word_pair w)) r → Toward d (states M) (word_pair w) r
  pub only : OnlyStates M w

-- how much the pair still lacks, at most
abbrev pub lacks : Direction → Meaning → Set × Set → ℕ
lacks d M w = states M * 2 - size d (states M) (word_pair w)

-- equal among the states, and without any other member, is equal
pub same_members : (M : Meaning) (p q : Set × Set) → OnlyStates M p → OnlyStates M q → Same (states M) (word_pair p) (word_pair q) → (j : ℕ) → (has p.0 j ≡ has q.0 j) × (has p.1 j ≡ has q.1 j)
same_members M p q ps qs h j = grind (arith, ps.0 j, ps.1 j, qs.0 j, qs.1 j, h j)

at_pair : (b : Bool) (w r : Set × Set) → word_pair (cond b w r) ≡ cond b (word_pair w) (word_pair r)
at_pair b w r = grind arith

pub only_with : (M : Meaning) (v u : Values) (x : Variable) (w : Set × Set) → value_at u ≡ at_variable (value_at v) x w → ValuesOnly M v → OnlyStates M w → ValuesOnly M u
only_with M v u x w is vs ws = rw is (λ y. let here = vs y in grind arith)

-- the pair that comes next in the iteration
module _ {d : Direction} {M : Meaning} {f : Formula} {v u : Values} {x : Variable} {w r : Set × Set} (is : value_at u ≡ at_variable (value_at v) x w) (h : Reached d M f v x w) (next : EvaluatesAt M f u r) where
  pairs_with : values_of u ≡ at_variable (values_of v) x (word_pair w)
  pairs_with = ap (λ e y. word_pair (e y)) is ∙ (λ i y. at_pair (same x y) w (value_at v y) i)

  step : Step d M f (values_of v) x (word_pair w) (word_pair r)
  step = let m = rw pairs_with at next.means in record { before = h.before; onward = h.onward (word_pair r) m; means = m }

  pub reached_next : {g : Formula} → g ≡ prefix (binder d x) f → ClosedPart g → Reached d M f v x r
  reached_next made closed =
      let (n, letters) = lettered f in
      let k = states M * 2 in
      let st = closed.standings in
      let cl = body_closed d x f st (rw made at closed.closed) in
      let wl = letters n (omega arith) in
      let e = at_variable (values_of v) x (word_pair r) in
      let onward = λ (p : Pair) (m : Means M f e p). next_step n n M f st (values_of v) x cl wl d (word_pair w) (word_pair r) p step m in
      record {
        before = (onward (pair_at k M f e) (computed k n n M (omega arith) f (at_variable st x Even) cl wl e)).before;
        onward = λ p m. (onward p m).onward;
        only = next.only;
      }

  pub reached_less : (((k : ℕ) → (has w.0 k ≡ has r.0 k) × (has w.1 k ≡ has r.1 k)) → ⊥) → lacks d M r < lacks d M w
  reached_less apart =
      let room = size_within d (states M) (word_pair r) in
      ⊎_elim (λ rest. absurd (apart (same_members M w r h.only next.only rest.0))) (λ grows. omega arith) (step_grows step)

  pub reached_last : {g : Formula} → g ≡ prefix (binder d x) f → ((k : ℕ) → (has w.0 k ≡ has r.0 k) × (has w.1 k ≡ has r.1 k)) → EvaluatesAt M g v w
  reached_last made same = rw made (record { means = last_step d M f (values_of v) x (word_pair w) (word_pair r) step (λ s lt. same s); only = h.only })
