-- From the front of a text to the text as a whole.
use Rattle.std.proofs.Common.{◌≡◌, ℕ, ◌≤◌, true, List, [], ◌++◌, length, drop, sym, ap, ◌∙◌, arith}
use Rattle.std.proofs.lemmas.List.{append-nil, length-drop}
use Rattle.calculus.specs.Formula.{Formula, within_letters}
use Rattle.formulas.specs.Places.{Unread, Unreadable}
use Rattle.formulas.specs.Texts.{text_of}
use Rattle.formulas.proofs.Spelled.{spelled_once}

pub unreadable : (t : List ℕ) → Unread t → Unreadable t
unreadable t none f r = none f [] r.lettered (sym r.spelled ∙ sym (append-nil (text_of f)))

module _ (t : List ℕ) (end : ℕ) (f : Formula) (spelled : t ≡ text_of f ++ drop end t) (lettered : within_letters 8 8 f ≡ true) where
  -- the formula stands there, but the text goes on
  pub goes_on : end ≤ length t → (end ≡ length t → ⊥) → Unreadable t
  goes_on inside more g r =
      let rest = (spelled_once f g (drop end t) [] lettered r.lettered (sym spelled ∙ sym r.spelled ∙ sym (append-nil (text_of g)))).1 in
      more (omega (arith, sym (length-drop end t) ∙ ap length rest))
