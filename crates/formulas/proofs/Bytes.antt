-- The signs of leaves, prefixes and binary formulas are told apart by their bytes.
use Rattle.std.proofs.Common.{◌≡◌, ℕ, ◌+◌, Bool, true, cond, ltb, List, [], ◌∷◌, ◌++◌, length, get_or, take, Some, Option, refl, ap, arith}
use Rattle.std.specs.Option.{option_map, option_or}
use Rattle.std.proofs.lemmas.Bool.{and_parts}
use Rattle.std.proofs.lemmas.Bool.Decides.{nat_tests}
use Rattle.calculus.specs.Formula.{Formula, leaf, prefix, binary, within_letters}
use Rattle.calculus.specs.declared.syntax.Variable.{Variable}
use Rattle.calculus.specs.declared.syntax.Variable.TheVariants.{X, Y, Z}
use Rattle.calculus.specs.declared.syntax.Leaf.{Leaf}
use Rattle.calculus.specs.declared.syntax.Leaf.TheVariants.{True, False, Lamp, Var}
use Rattle.calculus.specs.declared.syntax.Prefix.{Prefix}
use Rattle.calculus.specs.declared.syntax.Prefix.TheVariants.{Not, Diamond, Box, Least, Greatest}
use Rattle.calculus.specs.declared.syntax.Binary.{Binary}
use Rattle.calculus.specs.declared.syntax.Binary.TheVariants.{And, Or}
use Rattle.formulas.specs.declared.signs.Start.{Start}
use Rattle.formulas.specs.declared.signs.Start.TheVariants.{Atom, Operator, Open}
use Rattle.formulas.specs.Texts.{variable_sign, leaf_sign, prefix_signs, binary_sign, text_of}
use Rattle.formulas.specs.Signs.{variable_of, action_of, lamp_of, leaf_of, prefix_of, binary_of, start_of, starts}

variable_forth : (b : ℕ) (x : Variable) → variable_of b ≡ Some x → variable_sign x ≡ b
variable_forth b X h = grind (arith, nat_tests)
variable_forth b Y h = grind (arith, nat_tests)
variable_forth b Z h = grind (arith, nat_tests)

action_back : (a : ℕ) → ltb a 8 ≡ true → action_of (97 + a) ≡ Some a
action_back a h = grind (arith, nat_tests)

lamp_back : (l : ℕ) → ltb l 8 ≡ true → lamp_of (112 + l) ≡ Some l
lamp_back l h = grind (arith, nat_tests)

lamp_forth : (b l : ℕ) → lamp_of b ≡ Some l → (112 + l ≡ b) × (ltb l 8 ≡ true)
lamp_forth b l h = (grind (arith, nat_tests), grind (arith, nat_tests))

pub binary_back : (o : Binary) → binary_of (binary_sign o) ≡ Some o
binary_back And = refl
binary_back Or = refl

pub binary_forth : (b : ℕ) (o : Binary) → binary_of b ≡ Some o → binary_sign o ≡ b
binary_forth b And h = grind (arith, nat_tests)
binary_forth b Or h = grind (arith, nat_tests)

-- the formula's first sign
abbrev pub head_of : Formula → Option Start
head_of (leaf l) = Some (Atom l)
head_of (prefix p f) = Some (Operator p)
head_of (binary o f g) = Some Open

start_lamp : (l b c : ℕ) → ltb l 8 ≡ true → start_of (112 + l) b c ≡ Some (Atom (Lamp l))
start_lamp l b c h = rw lamp_back (grind (arith, nat_tests))

pub starts_as : (f : Formula) (rest : List ℕ) → within_letters 8 8 f ≡ true → starts (text_of f ++ rest) 0 ≡ head_of f
starts_as (leaf True) rest h = refl
starts_as (leaf False) rest h = refl
starts_as (leaf (Lamp l)) rest h = start_lamp l (get_or rest 0 0) (get_or rest 1 0) h
starts_as (leaf (Var X)) rest h = refl
starts_as (leaf (Var Y)) rest h = refl
starts_as (leaf (Var Z)) rest h = refl
starts_as (prefix Not f) rest h = refl
starts_as (prefix (Diamond a) f) rest h = ap (λ o. option_map Operator (option_map Diamond o)) (action_back a (and_parts (ltb a 8) _ h).0)
starts_as (prefix (Box a) f) rest h = ap (λ o. option_map Operator (option_map Box o)) (action_back a (and_parts (ltb a 8) _ h).0)
starts_as (prefix (Least X) f) rest h = refl
starts_as (prefix (Least Y) f) rest h = refl
starts_as (prefix (Least Z) f) rest h = refl
starts_as (prefix (Greatest X) f) rest h = refl
starts_as (prefix (Greatest Y) f) rest h = refl
starts_as (prefix (Greatest Z) f) rest h = refl
starts_as (binary o f g) rest h = refl

pub leaf_forth : (b : ℕ) (l : Leaf) → leaf_of b ≡ Some l → (leaf_sign l ≡ b) × (within_letters 8 8 (leaf l) ≡ true)
leaf_forth b True h = (grind (arith, nat_tests), refl)
leaf_forth b False h = (grind (arith, nat_tests), refl)
leaf_forth b (Lamp l) h = lamp_forth b l (grind (arith, nat_tests))
leaf_forth b (Var x) h = (variable_forth b x (grind (arith, nat_tests)), refl)

module _ (t : Bool) (x : Option Leaf) (y : Option Prefix) where
  pub from_open : cond t (Some Open) (option_or (option_map Atom x) (option_map Operator y)) ≡ Some Open → t ≡ true
  from_open h = grind arith

  pub from_atom : (l : Leaf) → cond t (Some Open) (option_or (option_map Atom x) (option_map Operator y)) ≡ Some (Atom l) → x ≡ Some l
  from_atom l h = grind arith

  pub from_operator : (p : Prefix) → cond t (Some Open) (option_or (option_map Atom x) (option_map Operator y)) ≡ Some (Operator p) → y ≡ Some p
  from_operator p h = grind arith

-- a prefix is spelled by the bytes from which it was told
pub prefix_forth : (a b c : ℕ) (p : Prefix) → prefix_of a b c ≡ Some p → prefix_signs p ≡ take (length (prefix_signs p)) (a ∷ b ∷ c ∷ [])
prefix_forth a b c Not h = grind (arith, nat_tests)
prefix_forth a b c (Diamond n) h = grind (arith, nat_tests)
prefix_forth a b c (Box n) h = grind (arith, nat_tests)
prefix_forth a b c (Least X) h = grind (arith, nat_tests)
prefix_forth a b c (Least Y) h = grind (arith, nat_tests)
prefix_forth a b c (Least Z) h = grind (arith, nat_tests)
prefix_forth a b c (Greatest X) h = grind (arith, nat_tests)
prefix_forth a b c (Greatest Y) h = grind (arith, nat_tests)
prefix_forth a b c (Greatest Z) h = grind (arith, nat_tests)

pub prefix_lettered : (a b c : ℕ) (p : Prefix) → prefix_of a b c ≡ Some p → (f : Formula) → within_letters 8 8 f ≡ true → within_letters 8 8 (prefix p f) ≡ true
prefix_lettered a b c Not h f w = w
prefix_lettered a b c (Diamond n) h f w = grind (arith, nat_tests)
prefix_lettered a b c (Box n) h f w = grind (arith, nat_tests)
prefix_lettered a b c (Least x) h f w = w
prefix_lettered a b c (Greatest x) h f w = w
