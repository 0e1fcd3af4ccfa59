-- What a mark says of the two sets, and that a state has one mark.
use Rattle.std.proofs.Common.{◌≡◌, ℕ, ◌<◌, Bool, true, false, cond, sym, refl, ap, ◌∙◌}
use Rattle.std.proofs.lemmas.Bool.{both_ways}
use Rattle.systems.specs.Meaning.{Meaning, states}
use Rattle.calculus.specs.declared.syntax.Mark.{Mark}
use Rattle.calculus.specs.declared.syntax.Mark.TheVariants.{True, False, Unknown as Open}
use Rattle.calculus.specs.Formula.{Formula}
use Rattle.calculus.specs.Pairs.{Pair}
use Rattle.calculus.specs.Marks.{Marked, mark_of, nothing}
use Rattle.logic.proofs.Unique.{unique}

pub true_marks : (p : Pair) (s : ℕ) → mark_of p s ≡ True → p.necessary s ≡ true
true_marks p s = go (p.necessary s) (p.possibly s)
  where
    go : (a b : Bool) → cond a True (cond b Open False) ≡ True → a ≡ true
    go true b e = refl
    go false true e = cc
    go false false e = cc

pub false_marks : (p : Pair) (s : ℕ) → mark_of p s ≡ False → p.possibly s ≡ false
false_marks p s = go (p.necessary s) (p.possibly s)
  where
    go : (a b : Bool) → cond a True (cond b Open False) ≡ False → b ≡ false
    go true b e = cc
    go false true e = cc
    go false false e = refl

pub marks_true : (p : Pair) (s : ℕ) → p.necessary s ≡ true → mark_of p s ≡ True
marks_true p s e = ap (λ b. cond b True (cond (p.possibly s) Open False)) e

pub marks_false : (p : Pair) (s : ℕ) → (p.necessary s ≡ true → p.possibly s ≡ true) → p.possibly s ≡ false → mark_of p s ≡ False
marks_false p s = go (p.necessary s) (p.possibly s)
  where
    go : (a b : Bool) → (a ≡ true → b ≡ true) → b ≡ false → cond a True (cond b Open False) ≡ False
    go true b h e = absurd (both_ways b e (h refl))
    go false true h e = absurd (both_ways true e refl)
    go false false h e = refl

-- a state has one mark
pub one_mark : (M : Meaning) (f : Formula) (s : ℕ) → s < states M → (m m' : Mark) → Marked M f s m → Marked M f s m' → m ≡ m'
one_mark M f s within m m' (p, means, mark) (p', means', mark') =
    let is = unique M f nothing p p' means means' s within in
    let necessary = is.0 in
    let possibly = is.1 in
    sym mark ∙ (ap (λ b. cond b True (cond (p.possibly s) Open False)) necessary ∙ (ap (λ b. cond (p'.necessary s) True (cond b Open False)) possibly ∙ mark'))
