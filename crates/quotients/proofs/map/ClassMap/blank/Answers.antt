use Rattle.std.proofs.Common.{◌≡◌, ℕ, zero, suc, get_or, replicate, refl}
use Rattle.quotients.proofs.map.ClassMap.blank.Goals as goal

-- what every place of a list holds is what is read beyond its end too
all_same : {A : Type 0} (n s : ℕ) (x : A) → get_or (replicate n x) s x ≡ x
all_same zero s x = refl
all_same (suc n) zero x = refl
all_same (suc n) (suc s) x = all_same n s x

pub invariant_of-result-clause-below : goal.invariant_of-result-clause-below
invariant_of-result-clause-below c = λ s. simp all_same c.requires.some
