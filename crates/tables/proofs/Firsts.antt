-- One more entry, for a place of which nothing is said so far.
use Rattle.std.proofs.Common.{◌≡◌, ℕ, ◌+◌, ◌<◌, Bool, true, cond, List, [], ◌∷◌, ◌++◌, length, take, set, Some, None, Option, refl, arith, ap, ◌∙◌}
use Rattle.std.proofs.lemmas.List.{take_more_set}
use Rattle.tables.specs.Entries.{first}
use Rattle.tables.specs.Tables.{entry}
use Rattle.systems.specs.declared.entries.Entry.{Entry}

module _ {P V : Type 0} (eq : P → P → Bool) (p : P) (v : V) (is : (q : P) → eq p q ≡ true → p ≡ q) where
  -- an entry before it decides elsewhere as it did: it does not fit there
  pub passed : (e : Entry P V) (q : P) (here there after : Option V) → cond (eq e.at p) (Some e.value) here ≡ None → (here ≡ None → after ≡ cond (eq p q) (Some v) there) → cond (eq e.at q) (Some e.value) after ≡ cond (eq p q) (Some v) (cond (eq e.at q) (Some e.value) there)
  passed e q here there after none more = grind (arith, is q)

  pub one_more : (es : List (Entry P V)) → first eq es p ≡ None → (q : P) → first eq (es ++ entry p v ∷ []) q ≡ cond (eq p q) (Some v) (first eq es q)
  one_more [] none q = refl
  one_more (e ∷ es) none q = passed e q (first eq es p) (first eq es q) _ none (λ n. one_more es n q)

  pub one_more_set : (es : List (Entry P V)) (i : ℕ) → i < length es → first eq (take i es) p ≡ None → (q : P) → first eq (take (i + 1) (set es i (entry p v))) q ≡ cond (eq p q) (Some v) (first eq (take i es) q)
  one_more_set es i lt none q = ap (λ (xs : List (Entry P V)). first eq xs q) (take_more_set es i (entry p v) lt) ∙ one_more (take i es) none q
