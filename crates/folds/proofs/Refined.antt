-- A system refines its abstraction, by any relation that joins each state to just its class.
use Rattle.std.proofs.Common.{◌≡◌, ℕ, ◌<◌, Bool, true, eqb, List, Decides, sym, refl, ◌∙◌, ⊎_elim, arith}
use Rattle.std.proofs.lemmas.Bool.Decides.{Decides-eqb}
use Rattle.systems.specs.Meaning.{Meaning, Lawful, states}
use Rattle.systems.specs.Refinement.{Joined, Refines}
use Rattle.folds.specs.Folds.{class_of, is_map, fold_meaning}
use Rattle.folds.specs.Readings.{Member, Abstraction, RefinedByClass}
use Rattle.folds.specs.Abstracted.{exact}
use Rattle.folds.specs.Mapped.{map_decides, class_below}
use Rattle.folds.specs.Words.{known_of}

module _
    (M : Meaning) (cs : List ℕ) (count : ℕ) (F : Meaning) (is : Abstraction M cs count F)
    (below : (s : ℕ) → s < states M → class_of cs s < count) (R : ℕ → ℕ → Bool)
    (joins : (c a : ℕ) → c < states M → Decides (R c a) (class_of cs c ≡ a)) where
  member_of : (c a : ℕ) → Joined M F R c a → Member M cs a c
  member_of c a j = record { state = j.lower; class = (joins c a j.lower).0 j.related }

  join_of : (c a : ℕ) → Member M cs a c → Joined M F R c a
  join_of c a m = record {
    lower = m.state;
    upper = omega (arith, below c m.state, m.class, is.states);
    related = (joins c a m.state).1 m.class;
  }

  refines : Refines M F R
  refines = record {
    lights = λ c a l j _ h. let m = member_of c a j in
        ⊎_elim (λ on. ((is.lamps_on a l).0 on).1 c m ∙ sym on)
        (λ off. ((is.lamps_off a l).0 off).1 c m ∙ sym off)
        (known_of (F.light a l) h);
    certain_moves = λ c a x t j _ h move. let e = ((is.certain_moves a x t).0 move).1 c (member_of c a j) in
        record { target = e.target; move = e.move; joined = join_of e.target t e.inside };
    possible_moves = λ c a x t j _ h move. let class = class_of cs t in
        let inside : Member M cs class t = record { state = h; class = refl } in
        record {
          target = class;
          move = (is.possible_moves a x class).1
              (c, member_of c a j, record { target = t; move = move; inside = inside });
          joined = join_of t class inside;
        };
  }

-- the same of the fold
module _ (M : Meaning) (cs : List ℕ) (count : ℕ) (lawful : Lawful M) (e : is_map M cs count ≡ true) where
  pub refined_by : (R : ℕ → ℕ → Bool) → ((c a : ℕ) → c < states M → Decides (R c a) (class_of cs c ≡ a)) →
      Refines M (fold_meaning M cs count) R
  refined_by =
      let below = class_below M cs count lawful ((map_decides M cs count).0 e) in
      refines M cs count (fold_meaning M cs count) (exact M cs count e) below

pub refined : (M : Meaning) (cs : List ℕ) (count : ℕ) → Lawful M → RefinedByClass M cs count
refined M cs count lawful e =
    refined_by M cs count lawful e (λ c a. eqb (class_of cs c) a) (λ c a h. Decides-eqb (class_of cs c) a)
