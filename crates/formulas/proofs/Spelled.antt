-- No text of a formula is the front of another's: a text is read in one way.
use Rattle.std.proofs.Common.{◌≡◌, ℕ, true, ltb, List, [], ◌∷◌, ◌++◌, sym, ap, ◌∙◌}
use Rattle.std.proofs.lemmas.List.{append_assoc, append_cancel_left}
use Rattle.std.proofs.lemmas.Bool.{and_parts}
use Rattle.calculus.specs.Formula.{Formula, leaf, prefix, binary, within_letters}
use Rattle.calculus.specs.declared.syntax.Prefix.{Prefix}
use Rattle.calculus.specs.declared.syntax.Prefix.TheVariants.{Not, Diamond, Box, Least, Greatest}
use Rattle.calculus.specs.declared.syntax.Binary.{Binary}
use Rattle.formulas.specs.Texts.{prefix_signs, binary_sign, text_of}
use Rattle.formulas.specs.Readings.{OneReading}
use Rattle.formulas.specs.Signs.{binary_of, starts}
use Rattle.formulas.proofs.Bytes.{head_of, starts_as, binary_back}

pub lettered_body : (k n : ℕ) (p : Prefix) (f : Formula) → within_letters k n (prefix p f) ≡ true → within_letters k n f ≡ true
lettered_body k n Not f h = h
lettered_body k n (Diamond a) f h = (and_parts (ltb a k) _ h).1
lettered_body k n (Box a) f h = (and_parts (ltb a k) _ h).1
lettered_body k n (Least x) f h = h
lettered_body k n (Greatest x) f h = h

pub text_prefix : (p : Prefix) (f : Formula) (r : List ℕ) → text_of (prefix p f) ++ r ≡ prefix_signs p ++ (text_of f ++ r)
text_prefix p f r = append_assoc (prefix_signs p) (text_of f) r

pub text_binary : (o : Binary) (f g : Formula) (r : List ℕ) → text_of (binary o f g) ++ r ≡ 40 ∷ (text_of f ++ (binary_sign o ∷ (text_of g ++ (41 ∷ r))))
text_binary o f g r = simp append_assoc

pub binary_same : (o q : Binary) → binary_sign o ≡ binary_sign q → o ≡ q
binary_same o q e = let l = binary_back o in let r = binary_back q in let m = ap binary_of e in cc

heads_same : (f g : Formula) (r s : List ℕ) → within_letters 8 8 f ≡ true → within_letters 8 8 g ≡ true → text_of f ++ r ≡ text_of g ++ s → head_of f ≡ head_of g
heads_same f g r s v w e = sym (starts_as f r v) ∙ ap (λ t. starts t 0) e ∙ starts_as g s w

prefixes_same : (p q : Prefix) (f g : Formula) (r s : List ℕ) → p ≡ q → text_of (prefix p f) ++ r ≡ text_of (prefix q g) ++ s → text_of f ++ r ≡ text_of g ++ s
prefixes_same p q f g r s h e =
    append_cancel_left (prefix_signs p) _ _ (sym (text_prefix p f r) ∙ e ∙ text_prefix q g s ∙ ap (λ z. prefix_signs z ++ (text_of g ++ s)) (sym h))

pub spelled_once : (f g : Formula) (r s : List ℕ) → within_letters 8 8 f ≡ true → within_letters 8 8 g ≡ true → text_of f ++ r ≡ text_of g ++ s → (f ≡ g) × (r ≡ s)
spelled_once (leaf l) (leaf k) r s v w e = let h = heads_same (leaf l) (leaf k) r s v w e in (cc, cc)
spelled_once (leaf l) (prefix p g) r s v w e = let h = heads_same (leaf l) (prefix p g) r s v w e in (cc, cc)
spelled_once (leaf l) (binary o g j) r s v w e = let h = heads_same (leaf l) (binary o g j) r s v w e in (cc, cc)
spelled_once (prefix p f) (leaf l) r s v w e = let h = heads_same (prefix p f) (leaf l) r s v w e in (cc, cc)
spelled_once (prefix p f) (prefix q g) r s v w e =
    let h = heads_same (prefix p f) (prefix q g) r s v w e in
    let pq : p ≡ q = cc in
    let rest = spelled_once f g r s (lettered_body 8 8 p f v) (lettered_body 8 8 q g w) (prefixes_same p q f g r s pq e) in
    let fg = rest.0 in
    (cc, rest.1)
spelled_once (prefix p f) (binary o g j) r s v w e = let h = heads_same (prefix p f) (binary o g j) r s v w e in (cc, cc)
spelled_once (binary o f i) (leaf l) r s v w e = let h = heads_same (binary o f i) (leaf l) r s v w e in (cc, cc)
spelled_once (binary o f i) (prefix p g) r s v w e = let h = heads_same (binary o f i) (prefix p g) r s v w e in (cc, cc)
spelled_once (binary o f i) (binary q g j) r s v w e =
    let fi = and_parts (within_letters 8 8 f) _ v in
    let gj = and_parts (within_letters 8 8 g) _ w in
    let inner : text_of f ++ (binary_sign o ∷ (text_of i ++ (41 ∷ r))) ≡ text_of g ++ (binary_sign q ∷ (text_of j ++ (41 ∷ s))) = let x = text_binary o f i r in let y = text_binary q g j s in cc in
    let front = spelled_once f g _ _ fi.0 gj.0 inner in
    let after = front.1 in
    let signs : binary_sign o ≡ binary_sign q = cc in
    let tails : text_of i ++ (41 ∷ r) ≡ text_of j ++ (41 ∷ s) = cc in
    let back = spelled_once i j _ _ fi.1 gj.1 tails in
    let oq = binary_same o q signs in
    let fg = front.0 in
    let ij = back.0 in
    let rs = back.1 in
    (cc, cc)

pub one_reading : OneReading
one_reading t f g a b = (spelled_once f g [] [] a.lettered b.lettered (ap (λ l. l ++ []) (a.spelled ∙ sym b.spelled))).0
