-- What the reader makes at a leaf, a prefix and a bracket.
use Rattle.std.proofs.Common.{◌≡◌, ℕ, ◌+◌, ◌<◌, ◌≤◌, ◌≢◌, List, ◌∷◌, ◌++◌, length, get_or, drop, set, Some, sym, ap, ◌∙◌, arith}
use Rattle.std.proofs.lemmas.List.{get_or-set_other}
use Rattle.std.proofs.lemmas.Bool.{and_from}
use Rattle.calculus.specs.Formula.{leaf, prefix, binary, within_letters}
use Rattle.calculus.specs.declared.syntax.Leaf as leaves
use Rattle.calculus.specs.declared.syntax.Leaf.TheVariants.{True}
use Rattle.calculus.specs.declared.syntax.Prefix as prefixes
use Rattle.calculus.specs.declared.syntax.Binary.{Binary}
use Rattle.formulas.specs.declared.node.Node.{Node}
use Rattle.formulas.specs.declared.node.Node.TheVariants.{Leaf, Prefix, Binary as Fork}
use Rattle.formulas.specs.declared.reader.Found.{Found}
use Rattle.formulas.specs.declared.signs.Start.TheVariants.{Atom, Operator, Open}
use Rattle.formulas.specs.Signs.{binary_of, starts}
use Rattle.formulas.specs.Texts.{prefix_signs, binary_sign, text_of}
use Rattle.formulas.specs.Places.{Stands}
use Rattle.formulas.proofs.Spelled.{text_prefix, text_binary}
use Rattle.formulas.proofs.Steps.{at_leaf, at_prefix, prefix_keeps, at_sign, at_close, at_bracket}
use Rattle.formulas.proofs.Tables.{same_at, leaf_written, prefix_written, fork_written}

-- a write leaves the nodes before it
kept_before : (ns : List Node) (i : ℕ) (n : Node) (k : ℕ) → k < i → get_or (set ns i n) k (Leaf True) ≡ get_or ns k (Leaf True)
kept_before ns i n k l = let apart : k ≢ i = omega arith in get_or-set_other ns i k n (Leaf True) apart

module _ (ns : List Node) (count : ℕ) (t : List ℕ) (i : ℕ) where
  pub leaf_stands : (l : leaves.Leaf) → Some (Atom l) ≡ starts t i → count ≤ i → length t ≤ length ns → Stands ns (set ns count (Leaf l)) count t i (record { end = i + 1; root = count })
  leaf_stands l h few short =
      let at = at_leaf t i l h in
      record {
        formula = leaf l;
        spelled = at.0.front;
        lettered = at.1;
        inside = at.0.inside;
        onward = omega arith;
        room = omega arith;
        made = leaf_written ns count (omega (arith, at.0.inside)) l;
        kept = kept_before ns count (Leaf l);
      }

  pub prefix_stands : (ms : List Node) (p : prefixes.Prefix) (w : ℕ) (r : Found) → Some (Operator p) ≡ starts t i → w ≡ length (prefix_signs p) → Stands ns ms count t (i + w) r → r.root + 1 < length ms → Stands ns (set ms (r.root + 1) (Prefix p r.root)) count t i (record { end = r.end; root = r.root + 1 })
  prefix_stands ms p w r h long body fits =
      let at = at_prefix t i p w h long in
      record {
        formula = prefix p body.formula;
        spelled = at.front ∙ ap (λ l. prefix_signs p ++ l) body.spelled ∙ sym (text_prefix p body.formula (drop r.end t));
        lettered = prefix_keeps t i p h body.formula body.lettered;
        inside = body.inside;
        onward = omega (arith, body.onward);
        room = omega (arith, body.room, at.some);
        made = prefix_written ms (r.root + 1) fits p r.root body.formula (omega arith) body.made;
        kept = λ k l. kept_before ms (r.root + 1) (Prefix p r.root) k (omega (arith, body.onward)) ∙ body.kept k l;
      }

  pub fork_stands : (ms ks : List Node) (o : Binary) (l r : Found) (b c : ℕ) → Some Open ≡ starts t i → Stands ns ms count t (i + 1) l → b ≡ get_or t l.end 0 → Some o ≡ binary_of b → Stands ms ks (l.root + 1) t (l.end + 1) r → c ≡ get_or t r.end 0 → c ≡ 41 → count ≤ i → length t ≤ length ks → Stands ns (set ks (r.root + 1) (Fork o l.root r.root)) count t i (record { end = r.end + 1; root = r.root + 1 })
  fork_stands ms ks o l r b c open_at left read sign right reads_close close few short =
      let bracket = at_bracket t i open_at in
      let middle = at_sign t l.end b o read sign in
      let end = at_close t r.end c reads_close close in
      let fits : r.root + 1 < length ks = omega (arith, left.room, right.room, end.inside) in
      record {
        formula = binary o left.formula right.formula;
        spelled = bracket.front ∙ ap (λ x. 40 ∷ x) (left.spelled ∙ ap (λ x. text_of left.formula ++ x) (middle.front ∙ ap (λ x. binary_sign o ∷ x) (right.spelled ∙ ap (λ x. text_of right.formula ++ x) end.front))) ∙ sym (text_binary o left.formula right.formula (drop (r.end + 1) t));
        lettered = and_from (within_letters 8 8 left.formula) _ left.lettered right.lettered;
        inside = end.inside;
        onward = omega (arith, left.onward, right.onward);
        room = omega (arith, left.room, right.room);
        made = fork_written ks (r.root + 1) fits o l.root r.root left.formula right.formula (omega (arith, right.onward)) (omega arith) (same_at ks ms (l.root + 1) l.root right.kept (omega arith) ∙ left.made) right.made;
        kept = λ k h. kept_before ks (r.root + 1) (Fork o l.root r.root) k (omega (arith, left.onward, right.onward)) ∙ right.kept k (omega (arith, left.onward)) ∙ left.kept k h;
      }
