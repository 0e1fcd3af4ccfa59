-- Every formula names only so many letters.
use Rattle.std.proofs.Common.{◌≡◌, ℕ, suc, ◌≤◌, max, true, refl, arith}
use Rattle.std.proofs.lemmas.Bool.{and_from, lt-ltb}
use Rattle.calculus.specs.declared.syntax.Leaf.TheVariants.{Lamp}
use Rattle.calculus.specs.declared.syntax.Prefix.TheVariants.{Diamond, Box}
use Rattle.calculus.specs.Formula.{Formula, leaf, prefix, binary, within_letters}

pub lettered : (f : Formula) → (n : ℕ) × ((m : ℕ) → n ≤ m → within_letters m m f ≡ true)
lettered (leaf (Lamp l)) = (suc l, λ m h. lt-ltb l m h)
lettered (leaf _) = (0, λ m h. refl)
lettered (prefix (Diamond a) f) = let (n, h) = lettered f in (max (suc a) n, λ m le. and_from _ _ (lt-ltb a m (omega arith)) (h m (omega arith)))
lettered (prefix (Box a) f) = let (n, h) = lettered f in (max (suc a) n, λ m le. and_from _ _ (lt-ltb a m (omega arith)) (h m (omega arith)))
lettered (prefix _ f) = lettered f
lettered (binary o f g) = let (n, h) = lettered f in let (m, k) = lettered g in (max n m, λ l le. and_from _ _ (h l (omega arith)) (k l (omega arith)))
