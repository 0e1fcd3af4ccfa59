-- Where no formula stands.
use Rattle.std.proofs.Common.{◌≡◌, ℕ, ◌+◌, true, List, ◌∷◌, ◌++◌, length, get_or, drop, Some, None, sym, ap, ◌∙◌}
use Rattle.std.proofs.lemmas.List.{append_cancel_left}
use Rattle.std.proofs.lemmas.Bool.{and_parts}
use Rattle.calculus.specs.Formula.{Formula, leaf, prefix, binary, within_letters}
use Rattle.calculus.specs.declared.syntax.Prefix.{Prefix}
use Rattle.calculus.specs.declared.syntax.Binary.{Binary}
use Rattle.formulas.specs.declared.signs.Start.TheVariants.{Operator, Open}
use Rattle.formulas.specs.Texts.{prefix_signs, binary_sign, text_of}
use Rattle.formulas.specs.Signs.{binary_of, starts}
use Rattle.formulas.specs.Places.{Unread}
use Rattle.formulas.proofs.Bytes.{binary_back}
use Rattle.formulas.proofs.Spelled.{lettered_body, text_prefix, text_binary, spelled_once}
use Rattle.formulas.proofs.Steps.{at_prefix, at_sign, at_bracket, byte_drop, head_at}

pub nothing_unread : (t : List ℕ) (i : ℕ) → None ≡ starts t i → Unread (drop i t)
nothing_unread t i h (leaf l) rest v e = let k = head_at t i (leaf l) rest v e in cc
nothing_unread t i h (prefix p f) rest v e = let k = head_at t i (prefix p f) rest v e in cc
nothing_unread t i h (binary o f g) rest v e = let k = head_at t i (binary o f g) rest v e in cc

pub prefix_unread : (t : List ℕ) (i : ℕ) (p : Prefix) (w : ℕ) → Some (Operator p) ≡ starts t i → w ≡ length (prefix_signs p) → Unread (drop (i + w) t) → Unread (drop i t)
prefix_unread t i p w h long none (leaf l) rest v e = let k = head_at t i (leaf l) rest v e in cc
prefix_unread t i p w h long none (prefix q g) rest v e =
    let k = head_at t i (prefix q g) rest v e in
    let same : q ≡ p = cc in
    none g rest (lettered_body 8 8 q g v)
    (append_cancel_left (prefix_signs p) _ _ (sym (at_prefix t i p w h long).front ∙ e ∙ text_prefix q g rest ∙ ap (λ s. prefix_signs s ++ (text_of g ++ rest)) same))
prefix_unread t i p w h long none (binary o f g) rest v e = let k = head_at t i (binary o f g) rest v e in cc

-- what stands in brackets
record Inner (t rest : List ℕ) : Type 0 where
  sign : Binary
  left : Formula
  right : Formula
  left_lettered : within_letters 8 8 left ≡ true
  right_lettered : within_letters 8 8 right ≡ true
  spelled : t ≡ text_of left ++ (binary_sign sign ∷ (text_of right ++ (41 ∷ rest)))

module _ (t : List ℕ) (i : ℕ) (h : Some Open ≡ starts t i) where
  inner : (f : Formula) (rest : List ℕ) → within_letters 8 8 f ≡ true → drop i t ≡ text_of f ++ rest → Inner (drop (i + 1) t) rest
  inner (leaf l) rest v e = let k = head_at t i (leaf l) rest v e in cc
  inner (prefix p f) rest v e = let k = head_at t i (prefix p f) rest v e in cc
  inner (binary o f g) rest v e =
      let parts = and_parts (within_letters 8 8 f) _ v in
      let front = (at_bracket t i h).front in
      let spelled = text_binary o f g rest in
      record { sign = o; left = f; right = g; left_lettered = parts.0; right_lettered = parts.1; spelled = cc }

  pub left_unread : Unread (drop (i + 1) t) → Unread (drop i t)
  left_unread none f rest v e = let n = inner f rest v e in none n.left _ n.left_lettered n.spelled

  -- after the left part
  module _ (f : Formula) (v : within_letters 8 8 f ≡ true) (j : ℕ) (before : drop (i + 1) t ≡ text_of f ++ drop j t) where
    after_left : (rest : List ℕ) (n : Inner (drop (i + 1) t) rest) → drop j t ≡ binary_sign n.sign ∷ (text_of n.right ++ (41 ∷ rest))
    after_left rest n = (spelled_once f n.left _ _ v n.left_lettered (sym before ∙ n.spelled)).1

    pub sign_unread : (b : ℕ) → b ≡ get_or t j 0 → None ≡ binary_of b → Unread (drop i t)
    sign_unread b read none g rest w e =
        let n = inner g rest w e in
        let same = read ∙ sym (byte_drop t j) ∙ ap (λ l. get_or l 0 0) (after_left rest n) in
        let z = none ∙ ap binary_of same ∙ binary_back n.sign in
        (cc)

    pub right_unread : (b : ℕ) (o : Binary) → b ≡ get_or t j 0 → Some o ≡ binary_of b → Unread (drop (j + 1) t) → Unread (drop i t)
    right_unread b o read sign none g rest w e =
        let n = inner g rest w e in
        let front = (at_sign t j b o read sign).front in
        let after = after_left rest n in
        none n.right (41 ∷ rest) n.right_lettered (cc)

    pub close_unread : (b : ℕ) (o : Binary) → b ≡ get_or t j 0 → Some o ≡ binary_of b → (g : Formula) → within_letters 8 8 g ≡ true → (k : ℕ) → drop (j + 1) t ≡ text_of g ++ drop k t → (c : ℕ) → c ≡ get_or t k 0 → (c ≡ 41 → ⊥) → Unread (drop i t)
    close_unread b o read sign g u k right c close none d rest w e =
        let n = inner d rest w e in
        let front = (at_sign t j b o read sign).front in
        let after = after_left rest n in
        let tails : text_of g ++ drop k t ≡ text_of n.right ++ (41 ∷ rest) = cc in
        none (close ∙ sym (byte_drop t k) ∙ ap (λ l. get_or l 0 0) (spelled_once g n.right _ _ u n.right_lettered tails).1)
