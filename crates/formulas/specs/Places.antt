-- What stands at a place of a text, and the node that it becomes.
use Rattle.std.specs.Prelude.{◌≡◌, ℕ, ◌+◌, ◌<◌, ◌≤◌, true, List, ◌++◌, length, drop, Some, ◌≢◌, slice_index_or}
use Rattle.calculus.specs.Formula.{Formula, within_letters}
use Rattle.calculus.specs.declared.syntax.Leaf.TheVariants.{True}
use Rattle.formulas.specs.declared.node.Node.{Node}
use Rattle.formulas.specs.declared.node.Node.TheVariants.{Leaf}
use Rattle.formulas.specs.declared.reader.Found.{Found}
use Rattle.formulas.specs.Nodes.{formula_at}
use Rattle.formulas.specs.Texts.{text_of, Reads}

-- no formula stands at the front of the text
abbrev pub Unread : List ℕ → Type 0
Unread t = (f : Formula) (rest : List ℕ) → within_letters 8 8 f ≡ true → t ≢ text_of f ++ rest

-- the text as a whole is no formula
abbrev pub Unreadable : List ℕ → Type 0
Unreadable t = (f : Formula) → Reads t f → ⊥

-- A formula stands in the text t at a place, and was made into nodes from the count-th on. The nodes
-- before that are kept, and there are at most as many new ones as the formula has bytes.
pub record Stands (before after : List Node) (count : ℕ) (t : List ℕ) (place : ℕ) (r : Found) : Type 0 where
  pub formula : Formula
  pub spelled : drop place t ≡ text_of formula ++ drop r.end t
  pub lettered : within_letters 8 8 formula ≡ true
  pub inside : r.end ≤ length t
  pub onward : count ≤ r.root
  pub room : r.root + place < r.end + count
  pub made : formula_at after r.root ≡ Some formula
  pub kept : (k : ℕ) → k < count → slice_index_or after k (Leaf True) ≡ slice_index_or before k (Leaf True)

-- the text as a whole is a formula, and the node at the root stands for it
pub record Whole (ns : List Node) (t : List ℕ) (root : ℕ) : Type 0 where
  pub formula : Formula
  pub reads : Reads t formula
  pub inside : root < length ns
  pub made : formula_at ns root ≡ Some formula
