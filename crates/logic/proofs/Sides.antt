-- A relation between states that lamps and moves keep carries one side of a formula's pair to a
-- side of its pair in another system.
use Rattle.std.proofs.Common.{◌≡◌, ℕ, ◌<◌, Bool, true, false, not, ◌&&◌, ◌||◌, sym, refl, ◌∙◌, ⊎_elim}
use Rattle.std.proofs.lemmas.Bool.{not-true, not_from_false, and_parts, and_from, or_cases, or_left, or_right, both_ways}
use Rattle.systems.specs.Bounded.{any, all}
use Rattle.systems.specs.Meaning.{Meaning, states}
use Rattle.systems.specs.Words.{possible, certain, is_on, is_off}
use Rattle.systems.specs.declared.kinds.Kind.{Kind}
use Rattle.systems.specs.declared.kinds.Light.{Light}
use Rattle.calculus.specs.declared.syntax.Leaf.TheVariants.{Lamp}
use Rattle.calculus.specs.declared.syntax.Binary.{Binary}
use Rattle.calculus.specs.declared.syntax.Binary.TheVariants.{And, Or}
use Rattle.calculus.specs.Pairs.{Pair, leaf_pair, not_pair, binary_pair, diamond_pair, box_pair}
use Rattle.calculus.specs.Marks.{nothing}
use Rattle.systems.proofs.Bounded.{any_from, any_to, all_from, all_to}
use Rattle.logic.proofs.Denotation.{none, every}
use Rattle.logic.proofs.Links.{Signs, Linked}
use Rattle.logic.proofs.Truth.{guarded_from, guarded_to, not_so}

-- a pair's necessary set, or its possible one
pub data Side : Type 0 where
  needed allowed : Side

abbrev pub other : Side → Side
other needed = allowed
other allowed = needed

abbrev pub part : Side → Pair → ℕ → Bool
part needed p s = p.necessary s
part allowed p s = p.possibly s

-- the moves that a diamond follows on a side; a box follows those of the other side
abbrev pub taken : Side → Kind → Bool
taken needed m = certain m
taken allowed m = possible m

abbrev pub lit : Side → Light → Bool
lit needed v = is_on v
lit allowed v = not (is_off v)

-- what the signs do to a side
part_none : (g : Side) (s : ℕ) → part g none s ≡ false
part_none needed s = refl
part_none allowed s = refl

part_every : (g : Side) (s : ℕ) → part g every s ≡ true
part_every needed s = refl
part_every allowed s = refl

part_lamp : (g : Side) (M : Meaning) (l s : ℕ) → part g (leaf_pair M nothing (Lamp l)) s ≡ lit g (M.light s l)
part_lamp needed M l s = refl
part_lamp allowed M l s = refl

part_not : (g : Side) (p : Pair) (s : ℕ) → part g (not_pair p) s ≡ not (part (other g) p s)
part_not needed p s = refl
part_not allowed p s = refl

part_other_not : (g : Side) (p : Pair) (s : ℕ) → part (other g) (not_pair p) s ≡ not (part g p s)
part_other_not needed p s = refl
part_other_not allowed p s = refl

part_and : (g : Side) (p q : Pair) (s : ℕ) → part g (binary_pair And p q) s ≡ (part g p s && part g q s)
part_and needed p q s = refl
part_and allowed p q s = refl

part_or : (g : Side) (p q : Pair) (s : ℕ) → part g (binary_pair Or p q) s ≡ (part g p s || part g q s)
part_or needed p q s = refl
part_or allowed p q s = refl

part_diamond : (g : Side) (M : Meaning) (x : ℕ) (p : Pair) (s : ℕ) → part g (diamond_pair M x p) s ≡ any (states M) (λ t. taken g (M.kind s x t) && part g p t)
part_diamond needed M x p s = refl
part_diamond allowed M x p s = refl

part_box : (g : Side) (M : Meaning) (x : ℕ) (p : Pair) (s : ℕ) → part g (box_pair M x p) s ≡ all (states M) (λ t. not (taken (other g) (M.kind s x t)) || part g p t)
part_box needed M x p s = refl
part_box allowed M x p s = refl

-- R joins states of A and C so that what the side g of A sees ahead the side h of C sees too, and
-- back again for the other sides. The letters are the actions below k and the lamps below n.
pub record Link (k n : ℕ) (A C : Meaning) (g h : Side) (R : ℕ → ℕ → Type 0) : Type 0 where
  pub lamps_ahead : (s t l : ℕ) → R s t → l < n → lit g (A.light s l) ≡ true → lit h (C.light t l) ≡ true
  pub lamps_back : (s t l : ℕ) → R s t → l < n → lit (other h) (C.light t l) ≡ true → lit (other g) (A.light s l) ≡ true
  pub moves_ahead : (s t x u : ℕ) → R s t → x < k → u < states A → taken g (A.kind s x u) ≡ true → (v : ℕ) × (v < states C) × (taken h (C.kind t x v) ≡ true) × R u v
  pub moves_back : (s t x v : ℕ) → R s t → x < k → v < states C → taken (other h) (C.kind t x v) ≡ true → (u : ℕ) × (u < states A) × (taken (other g) (A.kind s x u) ≡ true) × R u v

-- the set on the side g of p is carried by R into that on the side h of q
abbrev pub Carried : Side → Side → (ℕ → ℕ → Type 0) → Pair → Pair → Type 0
Carried g h R p q = (s t : ℕ) → R s t → part g p s ≡ true → part h q t ≡ true

abbrev pub flipped : {V : Type 1} → (ℕ → ℕ → V) → ℕ → ℕ → V
flipped R t s = R s t

twice : (g : Side) → other (other g) ≡ g
twice needed = refl
twice allowed = refl

-- the same relation, read from C to A
pub back : {k n : ℕ} {A C : Meaning} {g h : Side} {R : ℕ → ℕ → Type 0} → Link k n A C g h R → Link k n C A (other h) (other g) (flipped R)
back {C = C} {g} {h} link = record {
  lamps_ahead = λ t s l r lt e. link.lamps_back s t l r lt e;
  lamps_back = λ t s l r lt e. rw (twice h) (link.lamps_ahead s t l r lt (rw (twice g) at e));
  moves_ahead = λ t s x v r lt within e. link.moves_back s t x v r lt within e;
  moves_back = λ t s x u r lt within e. rw (twice h) (link.moves_ahead s t x u r lt within (rw (twice g) at e));
}

module _ {k n : ℕ} {A C : Meaning} {g h : Side} {R : ℕ → ℕ → Type 0} (link : Link k n A C g h R) where
  diamond_carried : (x : ℕ) → x < k → (p q : Pair) → Carried g h R p q → Carried g h R (diamond_pair A x p) (diamond_pair C x q)
  diamond_carried x lt p q carry s t r e =
      let found = any_to (states A) (λ u. taken g (A.kind s x u) && part g p u) (sym (part_diamond g A x p s) ∙ e) in
      let both = and_parts (taken g (A.kind s x found.0)) (part g p found.0) found.2 in
      let answer = link.moves_ahead s t x found.0 r lt found.1 both.0 in
      part_diamond h C x q t ∙
      any_from (states C) (λ v. taken h (C.kind t x v) && part h q v) answer.0 answer.1
      (and_from (taken h (C.kind t x answer.0)) (part h q answer.0) answer.2 (carry found.0 answer.0 answer.3 both.1))

  box_carried : (x : ℕ) → x < k → (p q : Pair) → Carried g h R p q → Carried g h R (box_pair A x p) (box_pair C x q)
  box_carried x lt p q carry s t r e =
      let held = all_to (states A) (λ u. not (taken (other g) (A.kind s x u)) || part g p u) (sym (part_box g A x p s) ∙ e) in
      part_box h C x q t ∙
      all_from (states C) (λ v. not (taken (other h) (C.kind t x v)) || part h q v)
      (λ v within. guarded_from (taken (other h) (C.kind t x v)) (part h q v)
      (λ move.
      let answer = link.moves_back s t x v r lt within move in
      carry answer.0 v answer.3 (guarded_to (taken (other g) (A.kind s x answer.0)) (part g p answer.0) (held answer.0 answer.1) answer.2)))

  binary_carried : (o : Binary) (p p' q q' : Pair) → Carried g h R p q → Carried g h R p' q' → Carried g h R (binary_pair o p p') (binary_pair o q q')
  binary_carried And p p' q q' carry carry' s t r e =
      let both = and_parts (part g p s) (part g p' s) (sym (part_and g p p' s) ∙ e) in
      part_and h q q' t ∙ and_from (part h q t) (part h q' t) (carry s t r both.0) (carry' s t r both.1)
  binary_carried Or p p' q q' carry carry' s t r e =
      part_or h q q' t ∙
      ⊎_elim (λ one. or_left (part h q t) (part h q' t) (carry s t r one)) (λ one. or_right (part h q t) (part h q' t) (carry' s t r one))
      (or_cases (part g p s) (part g p' s) (sym (part_or g p p' s) ∙ e))

  signs : Signs k n A C (Carried g h R)
  signs = record {
    none_kept = λ s t r e. absurd (both_ways (part g none s) (part_none g s) e);
    every_kept = λ s t r e. part_every h t;
    lamp_kept = λ l lt s t r e. part_lamp h C l t ∙ link.lamps_ahead s t l r lt (sym (part_lamp g A l s) ∙ e);
    diamond_kept = diamond_carried;
    box_kept = box_carried;
    binary_kept = binary_carried;
  }

signs_flipped : {k n : ℕ} {A C : Meaning} (K : Pair → Pair → Type 0) → Signs k n C A K → Signs k n A C (λ p q. K q p)
signs_flipped K kept = record {
  none_kept = kept.none_kept;
  every_kept = kept.every_kept;
  lamp_kept = kept.lamp_kept;
  diamond_kept = λ x lt p q. kept.diamond_kept x lt q p;
  box_kept = λ x lt p q. kept.box_kept x lt q p;
  binary_kept = λ o p p' q q'. kept.binary_kept o q q' p p';
}

contra : (a b : Bool) → (a ≡ true → b ≡ true) → not b ≡ true → not a ≡ true
contra a b h e = not_from_false a (not_so a b h (not-true b e))

-- A link is kept by every sign.
pub linked : {k n : ℕ} {A C : Meaning} {g h : Side} {R : ℕ → ℕ → Type 0} → Link k n A C g h R → Linked k n A C (Carried g h R) (λ p q. Carried (other h) (other g) (flipped R) q p)
linked {g = g} {h} {R} link = record {
  direct = signs link;
  turned = signs_flipped (Carried (other h) (other g) (flipped R)) (signs (back link));
  not_direct = λ p q carry s t r e. part_not h q t ∙ contra (part (other h) q t) (part (other g) p s) (carry t s r) (sym (part_not g p s) ∙ e);
  not_turned = λ p q carry t s r e. part_other_not g p s ∙ contra (part g p s) (part h q t) (carry s t r) (sym (part_other_not h q t) ∙ e);
}
