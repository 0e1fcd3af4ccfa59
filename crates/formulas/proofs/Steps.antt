-- One step of the reader: what the bytes at a place say of the formula there.
use Rattle.std.proofs.Common.{◌≡◌, ℕ, ◌+◌, ◌<◌, ◌≤◌, true, eqb, List, [], ◌∷◌, ◌++◌, length, get_or, drop, Some, sym, refl, ap, ◌∙◌, add-zero, arith, lit<}
use Rattle.std.proofs.lemmas.List.{get_or-drop, get_or_past, drop_more}
use Rattle.std.proofs.lemmas.Bool.{eqb-true}
use Rattle.calculus.specs.Formula.{Formula, leaf, prefix, within_letters}
use Rattle.calculus.specs.declared.syntax.Leaf.{Leaf}
use Rattle.calculus.specs.declared.syntax.Prefix.{Prefix}
use Rattle.calculus.specs.declared.syntax.Prefix.TheVariants.{Not, Diamond, Box, Least, Greatest}
use Rattle.calculus.specs.declared.syntax.Variable.TheVariants.{X, Y, Z}
use Rattle.calculus.specs.declared.syntax.Leaf.TheVariants.{True, False, Lamp, Var}
use Rattle.calculus.specs.declared.syntax.Binary.{Binary}
use Rattle.calculus.specs.declared.syntax.Binary.TheVariants.{And, Or}
use Rattle.formulas.specs.declared.signs.Start.TheVariants.{Atom, Operator, Open}
use Rattle.formulas.specs.Texts.{variable_sign, leaf_sign, prefix_signs, binary_sign, text_of}
use Rattle.formulas.specs.Signs.{leaf_of, prefix_of, binary_of, starts}
use Rattle.formulas.proofs.Bytes.{head_of, starts_as, leaf_forth, binary_forth, prefix_forth, prefix_lettered, from_open, from_atom, from_operator}

starts_drop : (t : List ℕ) (i : ℕ) → starts (drop i t) 0 ≡ starts t i
starts_drop t i = simp (get_or-drop, add-zero)

pub byte_drop : (t : List ℕ) (i : ℕ) → get_or (drop i t) 0 0 ≡ get_or t i 0
byte_drop t i = simp (get_or-drop, add-zero)

-- signs at a place of the text, of which there are w
pub record At (t : List ℕ) (i : ℕ) (signs : List ℕ) (w : ℕ) : Type 0 where
  pub front : drop i t ≡ signs ++ drop (i + w) t
  pub some : 0 < w
  pub inside : i + w ≤ length t

-- a byte that is not 0 stands before the end of the text
before_end : (t : List ℕ) (i b : ℕ) → b ≡ get_or t i 0 → 0 < b → i < length t
before_end t i b e some = grind (arith, get_or_past {X = ℕ})

at_byte : (t : List ℕ) (i b : ℕ) → b ≡ get_or t i 0 → 0 < b → At t i (b ∷ []) 1
at_byte t i b e some =
    let inside = before_end t i b e some in
    let front = drop_more t i 0 inside in
    record { front = cc; some = omega arith; inside = omega arith }

at_three : (t : List ℕ) (i a b c : ℕ) → a ∷ b ∷ c ∷ [] ≡ get_or t i 0 ∷ get_or t (i + 1) 0 ∷ get_or t (i + 2) 0 ∷ [] → 0 < c → At t i (a ∷ b ∷ c ∷ []) 3
at_three t i a b c e some =
    let inside = before_end t (i + 2) c (cc) some in
    let first = drop_more t i 0 (omega arith) in
    let second = drop_more t (i + 1) 0 (omega arith) in
    let third = drop_more t (i + 2) 0 inside in
    let two : i + 1 + 1 ≡ i + 2 = omega arith in
    let three : i + 2 + 1 ≡ i + 3 = omega arith in
    record { front = cc; some = omega arith; inside = omega arith }

pub at_sign : (t : List ℕ) (i b : ℕ) (o : Binary) → b ≡ get_or t i 0 → Some o ≡ binary_of b → At t i (binary_sign o ∷ []) 1
at_sign t i b And e h = at_byte t i 38 (binary_forth b And (sym h) ∙ e) (lit< tt)
at_sign t i b Or e h = at_byte t i 124 (binary_forth b Or (sym h) ∙ e) (lit< tt)

pub at_close : (t : List ℕ) (i b : ℕ) → b ≡ get_or t i 0 → b ≡ 41 → At t i (41 ∷ []) 1
at_close t i b e h = at_byte t i 41 (sym h ∙ e) (lit< tt)

leaf_some : (l : Leaf) → 0 < leaf_sign l
leaf_some True = lit< tt
leaf_some False = lit< tt
leaf_some (Lamp l) = omega arith
leaf_some (Var X) = lit< tt
leaf_some (Var Y) = lit< tt
leaf_some (Var Z) = lit< tt

-- what a place of the text begins stands there
module _ (t : List ℕ) (i : ℕ) where
  abbrev a : ℕ
  a = get_or t i 0

  abbrev b : ℕ
  b = get_or t (i + 1) 0

  abbrev c : ℕ
  c = get_or t (i + 2) 0

  pub at_bracket : Some Open ≡ starts t i → At t i (40 ∷ []) 1
  at_bracket h = at_byte t i 40 (sym (eqb-true a 40 (from_open (eqb a 40) (leaf_of a) (prefix_of a b c) (sym h)))) (lit< tt)

  pub at_leaf : (l : Leaf) → Some (Atom l) ≡ starts t i → At t i (leaf_sign l ∷ []) 1 × (within_letters 8 8 (leaf l) ≡ true)
  at_leaf l h =
      let e = leaf_forth a l (from_atom (eqb a 40) (leaf_of a) (prefix_of a b c) l (sym h)) in
      (at_byte t i (leaf_sign l) e.0 (leaf_some l), e.1)

  prefix_at : (p : Prefix) → Some (Operator p) ≡ starts t i → prefix_of a b c ≡ Some p
  prefix_at p h = from_operator (eqb a 40) (leaf_of a) (prefix_of a b c) p (sym h)

  pub prefix_keeps : (p : Prefix) → Some (Operator p) ≡ starts t i → (f : Formula) → within_letters 8 8 f ≡ true → within_letters 8 8 (prefix p f) ≡ true
  prefix_keeps p h = prefix_lettered a b c p (prefix_at p h)

  at_signs : (p : Prefix) → Some (Operator p) ≡ starts t i → At t i (prefix_signs p) (length (prefix_signs p))
  at_signs Not h = let e = prefix_forth a b c Not (prefix_at Not h) in at_byte t i 33 (cc) (lit< tt)
  at_signs (Diamond n) h = at_three t i 60 (97 + n) 62 (prefix_forth a b c (Diamond n) (prefix_at (Diamond n) h)) (lit< tt)
  at_signs (Box n) h = at_three t i 91 (97 + n) 93 (prefix_forth a b c (Box n) (prefix_at (Box n) h)) (lit< tt)
  at_signs (Least x) h = at_three t i 109 (variable_sign x) 46 (prefix_forth a b c (Least x) (prefix_at (Least x) h)) (lit< tt)
  at_signs (Greatest x) h = at_three t i 110 (variable_sign x) 46 (prefix_forth a b c (Greatest x) (prefix_at (Greatest x) h)) (lit< tt)

  pub at_prefix : (p : Prefix) (w : ℕ) → Some (Operator p) ≡ starts t i → w ≡ length (prefix_signs p) → At t i (prefix_signs p) w
  at_prefix p w h long = rw long (at_signs p h)

pub head_at : (t : List ℕ) (i : ℕ) (f : Formula) (rest : List ℕ) → within_letters 8 8 f ≡ true → drop i t ≡ text_of f ++ rest → head_of f ≡ starts t i
head_at t i f rest v e = sym (starts_as f rest v) ∙ ap (λ l. starts l 0) (sym e) ∙ starts_drop t i

pub prefix_long : (p : Prefix) → 0 < length (prefix_signs p)
prefix_long Not = lit< tt
prefix_long (Diamond a) = lit< tt
prefix_long (Box a) = lit< tt
prefix_long (Least x) = lit< tt
prefix_long (Greatest x) = lit< tt

pub prefix_inside : (t : List ℕ) (i : ℕ) (p : Prefix) → Some (Operator p) ≡ starts t i → i + length (prefix_signs p) ≤ length t
prefix_inside t i p h = (at_prefix t i p (length (prefix_signs p)) h refl).inside
