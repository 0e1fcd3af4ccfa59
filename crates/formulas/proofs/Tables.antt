-- A node's formula from those of the nodes before it.
use Rattle.std.proofs.Common.{◌≡◌, ℕ, zero, suc, ◌<◌, ◌≤◌, cond, eqb, ◌≢◌, List, length, get_or, set, true, false, is_some, Some, None, Option, sym, refl, ap, ap₂, ◌∙◌, ⊎_elim, arith}
use mathlib.Core.Path.{fun_ext}
use Rattle.std.proofs.lemmas.List.{get_or-set_same, get_or-set_other}
use Rattle.std.proofs.lemmas.Bool.{cases_eq, cases_lt, eq-eqb, ne_eqb, cond-true, cond-false, both_ways}
use Rattle.std.specs.Option.{option_map, unwrap_or}
use Rattle.calculus.specs.Formula.{Formula, leaf, prefix, binary}
use Rattle.calculus.specs.declared.syntax.Binary.{Binary}
use Rattle.calculus.specs.declared.syntax.Prefix as prefixes
use Rattle.calculus.specs.declared.syntax.Leaf as leaves
use Rattle.calculus.specs.declared.syntax.Leaf.TheVariants.{True}
use Rattle.formulas.specs.declared.node.Node.{Node}
use Rattle.formulas.specs.declared.node.Node.TheVariants.{Leaf, Prefix, Binary as Fork}
use Rattle.formulas.specs.Nodes.{joined, built, formulas_below, formula_at}
use Rattle.formulas.specs.Sentences.{Formed}

-- nodes that agree below n stand for the same formulas there
pub same_below : (n : ℕ) (ns ms : List Node) → ((k : ℕ) → k < n → get_or ns k (Leaf True) ≡ get_or ms k (Leaf True)) → formulas_below ns n ≡ formulas_below ms n
same_below zero ns ms h = fun_ext (λ j. refl)
same_below (suc n) ns ms h =
    let here = h n (omega arith) in
    let before = same_below n ns ms (λ k l. h k (omega arith)) in
    λ i j. cond (eqb j n) (built (here i) (before i)) (before i j)

pub below_at : (ns : List Node) (n j : ℕ) → j < n → formulas_below ns n j ≡ formula_at ns j
below_at ns zero j h = absurd (omega arith)
below_at ns (suc n) j h =
    let rest : j < n → formulas_below ns n j ≡ formula_at ns j = below_at ns n j in
    ⊎_elim (λ e. ap (λ m. formulas_below ns (suc m) j) (sym e)) (λ apart. cond-false (eqb j n) _ _ (ne_eqb j n apart) ∙ rest (omega arith)) (cases_eq j n)

below_past : (ns : List Node) (n j : ℕ) → n ≤ j → formulas_below ns n j ≡ None
below_past ns zero j h = refl
below_past ns (suc n) j h = cond-false (eqb j n) _ _ (ne_eqb j n (λ e. omega arith)) ∙ below_past ns n j (omega arith)

at_built : (ns : List Node) (i : ℕ) → formula_at ns i ≡ built (get_or ns i (Leaf True)) (formulas_below ns i)
at_built ns i = cond-true (eqb i i) _ _ (eq-eqb i i refl)

pub same_at : (ns ms : List Node) (n i : ℕ) → ((k : ℕ) → k < n → get_or ns k (Leaf True) ≡ get_or ms k (Leaf True)) → i < n → formula_at ns i ≡ formula_at ms i
same_at ns ms n i h l = ap (λ table. table i) (same_below (suc i) ns ms (λ k m. h k (omega arith)))

-- a node that is written after those of its parts
module _ (ns : List Node) (i : ℕ) (fits : i < length ns) where
  written : (n : Node) → formula_at (set ns i n) i ≡ built n (formulas_below ns i)
  written n =
      at_built (set ns i n) i ∙ (λ z. built (get_or-set_same ns i n (Leaf True) fits z) (same_below i (set ns i n) ns (λ k l. let apart : k ≢ i = omega arith in get_or-set_other ns i k n (Leaf True) apart) z))

  pub leaf_written : (l : leaves.Leaf) → formula_at (set ns i (Leaf l)) i ≡ Some (leaf l)
  leaf_written l = written (Leaf l)

  pub prefix_written : (p : prefixes.Prefix) (j : ℕ) (f : Formula) → j < i → formula_at ns j ≡ Some f → formula_at (set ns i (Prefix p j)) i ≡ Some (prefix p f)
  prefix_written p j f l e = written (Prefix p j) ∙ ap (option_map (prefix p)) (below_at ns i j l ∙ e)

  pub fork_written : (o : Binary) (j k : ℕ) (f g : Formula) → j < i → k < i → formula_at ns j ≡ Some f → formula_at ns k ≡ Some g → formula_at (set ns i (Fork o j k)) i ≡ Some (binary o f g)
  fork_written o j k f g l m d e = written (Fork o j k) ∙ (λ z. joined o ((below_at ns i j l ∙ d) z) ((below_at ns i k m ∙ e) z))

-- a formula that is made of others is there only if they are
mapped_some : (p : prefixes.Prefix) (x : Option Formula) → is_some (option_map (prefix p) x) ≡ true → (is_some x ≡ true) × (unwrap_or (option_map (prefix p) x) (leaf True) ≡ prefix p (unwrap_or x (leaf True)))
mapped_some p None h = absurd (both_ways false refl h)
mapped_some p (Some f) h = (refl, refl)

joined_some : (o : Binary) (x y : Option Formula) → is_some (joined o x y) ≡ true → (is_some x ≡ true) × (is_some y ≡ true) × (unwrap_or (joined o x y) (leaf True) ≡ binary o (unwrap_or x (leaf True)) (unwrap_or y (leaf True)))
joined_some o None y h = absurd (both_ways false refl h)
joined_some o (Some f) None h = absurd (both_ways false refl h)
joined_some o (Some f) (Some g) h = (refl, refl, refl)

-- what is known of a node that stands for a formula
module _ (ns : List Node) (i : ℕ) (formed : Formed ns i) where
  made : (n : Node) → get_or ns i (Leaf True) ≡ n → formula_at ns i ≡ built n (formulas_below ns i)
  made n e = at_built ns i ∙ ap (λ m. built m (formulas_below ns i)) e

  below_some : (j : ℕ) → is_some (formulas_below ns i j) ≡ true → (j < i) × (formulas_below ns i j ≡ formula_at ns j)
  below_some j h = ⊎_elim (λ l. (l, below_at ns i j l)) (λ past. absurd (both_ways _ (ap is_some (below_past ns i j past)) h)) (cases_lt j i)

  pub prefix_part : (p : prefixes.Prefix) (j : ℕ) → get_or ns i (Leaf True) ≡ Prefix p j → (j < i) × Formed ns j × (unwrap_or (formula_at ns i) (leaf True) ≡ prefix p (unwrap_or (formula_at ns j) (leaf True)))
  prefix_part p j e =
      let m = made (Prefix p j) e in
      let k = mapped_some p (formulas_below ns i j) (ap is_some (sym m) ∙ formed) in
      let b = below_some j k.0 in
      (b.0, ap is_some (sym b.1) ∙ k.0, ap (λ x. unwrap_or x (leaf True)) m ∙ k.1 ∙ ap (λ x. prefix p (unwrap_or x (leaf True))) b.1)

  pub fork_part : (o : Binary) (j k : ℕ) → get_or ns i (Leaf True) ≡ Fork o j k → (j < i) × (k < i) × Formed ns j × Formed ns k × (unwrap_or (formula_at ns i) (leaf True) ≡ binary o (unwrap_or (formula_at ns j) (leaf True)) (unwrap_or (formula_at ns k) (leaf True)))
  fork_part o j k e =
      let m = made (Fork o j k) e in
      let s = joined_some o (formulas_below ns i j) (formulas_below ns i k) (ap is_some (sym m) ∙ formed) in
      let b = below_some j s.0 in
      let d = below_some k s.1 in
      (b.0, d.0, ap is_some (sym b.1) ∙ s.0, ap is_some (sym d.1) ∙ s.1, ap (λ x. unwrap_or x (leaf True)) m ∙ s.2 ∙ ap₂ (λ x y. binary o (unwrap_or x (leaf True)) (unwrap_or y (leaf True))) b.1 d.1)
