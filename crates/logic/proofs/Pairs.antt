-- Equal and contained pairs, and the signs on equal pairs.
use Rattle.std.proofs.Common.{ℕ, not, ◌&&◌, ◌||◌, sym, refl, ap, ◌∙◌}
use Rattle.systems.specs.Meaning.{Meaning, states}
use Rattle.systems.specs.Words.{possible, certain}
use Rattle.calculus.specs.declared.syntax.Binary.{Binary}
use Rattle.calculus.specs.declared.syntax.Binary.TheVariants.{And, Or}
use Rattle.calculus.specs.Pairs.{Pair, Same, Within, not_pair, binary_pair, diamond_pair, box_pair}
use Rattle.systems.proofs.Bounded.{any_same, all_same}
use Rattle.logic.proofs.Truth.{tests_same}

pub same_refl : (n : ℕ) (p : Pair) → Same n p p
same_refl n p s lt = (refl, refl)

pub same_sym : (n : ℕ) (p q : Pair) → Same n p q → Same n q p
same_sym n p q h s lt = (sym (h s lt).0, sym (h s lt).1)

pub same_trans : (n : ℕ) (p q r : Pair) → Same n p q → Same n q r → Same n p r
same_trans n p q r h k s lt = ((h s lt).0 ∙ (k s lt).0, (h s lt).1 ∙ (k s lt).1)

pub within_refl : (n : ℕ) (p : Pair) → Within n p p
within_refl n p s lt = (λ e. e, λ e. e)

pub within_trans : (n : ℕ) (p q r : Pair) → Within n p q → Within n q r → Within n p r
within_trans n p q r h k s lt = (λ e. (k s lt).0 ((h s lt).0 e), λ e. (k s lt).1 ((h s lt).1 e))

pub within_from_same : (n : ℕ) (p q : Pair) → Same n p q → Within n p q
within_from_same n p q h s lt = (λ e. sym (h s lt).0 ∙ e, λ e. sym (h s lt).1 ∙ e)

pub same_from_within : (n : ℕ) (p q : Pair) → Within n p q → Within n q p → Same n p q
same_from_within n p q h k s lt =
    (tests_same (p.necessary s) (q.necessary s) (h s lt).0 (k s lt).0, tests_same (p.possibly s) (q.possibly s) (h s lt).1 (k s lt).1)

pub not_same : (n : ℕ) (p q : Pair) → Same n p q → Same n (not_pair p) (not_pair q)
not_same n p q h s lt = (ap not (h s lt).1, ap not (h s lt).0)

pub binary_same : (n : ℕ) (o : Binary) (p p' q q' : Pair) → Same n p q → Same n p' q' → Same n (binary_pair o p p') (binary_pair o q q')
binary_same n And p p' q q' h k s lt =
    (ap (λ b. b && p'.necessary s) (h s lt).0 ∙ ap (λ b. q.necessary s && b) (k s lt).0, ap (λ b. b && p'.possibly s) (h s lt).1 ∙ ap (λ b. q.possibly s && b) (k s lt).1)
binary_same n Or p p' q q' h k s lt =
    (ap (λ b. b || p'.necessary s) (h s lt).0 ∙ ap (λ b. q.necessary s || b) (k s lt).0, ap (λ b. b || p'.possibly s) (h s lt).1 ∙ ap (λ b. q.possibly s || b) (k s lt).1)

pub diamond_same : (n : ℕ) (M : Meaning) (x : ℕ) (p q : Pair) → Same (states M) p q → Same n (diamond_pair M x p) (diamond_pair M x q)
diamond_same n M x p q h s lt =
    (any_same (states M) _ _ (λ t within. ap (λ b. certain (M.kind s x t) && b) (h t within).0), any_same (states M) _ _ (λ t within. ap (λ b. possible (M.kind s x t) && b) (h t within).1))

pub box_same : (n : ℕ) (M : Meaning) (x : ℕ) (p q : Pair) → Same (states M) p q → Same n (box_pair M x p) (box_pair M x q)
box_same n M x p q h s lt =
    (all_same (states M) _ _ (λ t within. ap (λ b. not (possible (M.kind s x t)) || b) (h t within).0), all_same (states M) _ _ (λ t within. ap (λ b. not (certain (M.kind s x t)) || b) (h t within).1))
