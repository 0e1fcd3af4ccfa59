-- A fold by a map that is one can be taken over by a frame, and is the abstraction.
use Rattle.std.proofs.Common.{◌≡◌, ℕ, true, List, Ok, ap, ◌∙◌, arith}
use Rattle.std.proofs.lemmas.Bool.Decides.{nat_tests}
use Rattle.folds.specs.Abstracted.{fold_is, exact}
use Rattle.folds.specs.Mapped.{Mapping, map_decides}
use Rattle.folds.proofs.Refined.{refined}
use Rattle.folds.specs.Folds.{is_map, fold_meaning}
use Rattle.sets.specs.Sets.{width}
use Rattle.systems.specs.Edits.{Answer, after, load_answer}
use Rattle.systems.specs.Meaning.{Meaning, Lawful}
use Rattle.quotients.specs.Quotients.{Folded}

module _ (M : Meaning) (cs : List ℕ) (count : ℕ) (map : Mapping M cs count) where
  abbrev F : Meaning
  F = fold_meaning M cs count

  is : is_map M cs count ≡ true
  is = (map_decides M cs count).1 map

  pub loads : load_answer width F ≡ Ok tt
  loads = ap (load_answer width) (fold_is M cs count is) ∙ grind (arith, nat_tests, map.some, map.few)

  -- what a draft means that has loaded the fold, by whatever name N
  pub loaded : (N old new : Meaning) (r : Answer) → N ≡ F → r ≡ load_answer width N → new ≡ after r N old → new ≡ F
  loaded N old new r same is became = became ∙ ap (λ a. after a N old) (is ∙ ap (load_answer width) same ∙ loads) ∙ same

  pub folds : Lawful M → Folded M cs count F
  folds lawful = record { exact = exact M cs count is; refined = refined M cs count lawful is }
