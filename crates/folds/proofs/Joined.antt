-- What joining the states of a system to their classes answers and shows.
use Rattle.std.proofs.Common.{◌≡◌, ℕ, ◌<◌, true, cond, eqb, List, length, get_or, Ok, Err, sym, arith}
use Rattle.std.proofs.lemmas.Bool.{ne_eqb, cond-false}
use Rattle.std.proofs.lemmas.Bool.Decides.{Decides-at, Decides-like, Decides-eqb}
use Rattle.sets.specs.Sets.{Set, has, width}
use Rattle.systems.specs.Meaning.{Meaning, Lawful, states}
use Rattle.systems.specs.declared.refusal.Refusal.{Refusal}
use Rattle.systems.specs.declared.refusal.Refusal.TheVariants.{Rows}
use Rattle.folds.specs.Folds.{class_of, is_map}
use Rattle.folds.specs.Joins.{join_answer, RowsOf, Faithful}
use Rattle.folds.specs.Abstracted.{exact, fold_is}
use Rattle.folds.specs.Mapped.{map_decides, class_below}
use Rattle.folds.proofs.Refined.{refined_by, refined}

module _ (M : Meaning) (cs : List ℕ) (count : ℕ) where
  -- where the classes are a map, only the rows are asked
  pub answer_by_rows : (rows : ℕ) → is_map M cs count ≡ true →
      join_answer M cs count rows ≡ cond (eqb rows (states M)) (Ok tt) (Err Rows)
  answer_by_rows rows e =
      let some = ((map_decides M cs count).0 e).some in
      rw (fold_is M cs count e) (cond-false _ _ _ (ne_eqb count 0 (λ none. omega arith)))

  pub faithful_refused : (e : Refusal) (rows : List Set) → Lawful M → Faithful M cs count (Err e) rows
  faithful_refused e rows lawful =
      record { exact = exact M cs count; refined = refined M cs count lawful; joined = tt }

  pub faithful_joined : (rows : List Set) → Lawful M → is_map M cs count ≡ true → length rows ≡ states M →
      RowsOf cs rows → Faithful M cs count (Ok tt) rows
  faithful_joined rows lawful e long held = record {
    exact = exact M cs count;
    refined = refined M cs count lawful;
    joined = refined_by M cs count lawful e (λ c a. has (get_or rows c 0) a)
        (λ c a h. Decides-at _ _ (held c (omega arith) a) (Decides-like _ sym sym (Decides-eqb a (class_of cs c))));
  }

  -- every class is a number that a set holds
  pub class_held : Lawful M → is_map M cs count ≡ true → (s : ℕ) → s < states M → class_of cs s < width
  class_held lawful e s h =
      let map = (map_decides M cs count).0 e in
      omega (arith, class_below M cs count lawful map s h, map.few)
