-- A system that keeps every certain move and known light of another, and has no possible move that
-- the other lacks, refines it; tightening makes such a system.
use Rattle.std.proofs.Common.{◌≡◌, ℕ, ◌<◌, Bool, true, false, ◌&&◌, eqb, sym, refl, ap, ◌∙◌, subst}
use Rattle.std.proofs.lemmas.Bool.{both_ways, and_parts, cond_both, eqb-true, eq-eqb}
use Rattle.systems.specs.Meaning.{Meaning, states, with_move, with_light}
use Rattle.systems.specs.Refinement.{Alike, Joined, Refines}
use Rattle.systems.specs.Words.{possible, certain, known}
use Rattle.systems.specs.declared.kinds.Kind.{Kind}
use Rattle.systems.specs.declared.kinds.Kind.TheVariants.{Optional}
use Rattle.systems.specs.declared.kinds.Light.{Light}
use Rattle.systems.specs.declared.kinds.Light.TheVariants.{Unknown}
use Rattle.logic.specs.Theorems.{Tightening, Tightened, same, moved, lit, Carries, Refined, Kept}
use Rattle.logic.proofs.Preserved.{preservation}
use Rattle.logic.proofs.Questions.{question_of}

pub record Tighter (N M : Meaning) : Type 0 where
  pub same_sizes : N.sizes ≡ M.sizes
  pub lights_kept : (s l : ℕ) → known (M.light s l) ≡ true → N.light s l ≡ M.light s l
  pub certain_kept : (s x t : ℕ) → certain (M.kind s x t) ≡ true → certain (N.kind s x t) ≡ true
  pub possible_kept : (s x t : ℕ) → possible (N.kind s x t) ≡ true → possible (M.kind s x t) ≡ true

module _ (N M : Meaning) (tighter : Tighter N M) where
  -- a state below the number of states of one system, as one of both, joined with itself
  itself_joined : (s : ℕ) → s < states M → Joined N M eqb s s
  itself_joined s lt = record { lower = subst (λ z. s < z.states) (sym tighter.same_sizes) lt; upper = lt; related = eq-eqb s s refl }

  pub tighter_refines : Refines N M eqb
  tighter_refines = record {
    lights = λ c a l joined lt is. ap (λ s. N.light s l) (eqb-true c a joined.related) ∙ tighter.lights_kept a l is;
    certain_moves = λ c a x t joined lt within is. record {
      target = t;
      move = subst (λ s. certain (N.kind s x t) ≡ true) (sym (eqb-true c a joined.related)) (tighter.certain_kept a x t is);
      joined = itself_joined t within;
    };
    possible_moves = λ c a x t joined lt within is. record {
      target = t;
      move = subst (λ s. possible (M.kind s x t) ≡ true) (eqb-true c a joined.related) (tighter.possible_kept c x t is);
      joined = itself_joined t (subst (λ z. t < z.states) tighter.same_sizes within);
    };
  }

  pub tighter_refined : (s : ℕ) → s < states M → Refined N s M s
  tighter_refined s lt = (eqb, tighter_refines, itself_joined s lt)

-- each system is as tight as itself
pub tight_itself : (M : Meaning) → Tighter M M
tight_itself M = record { same_sizes = refl; lights_kept = λ s l is. refl; certain_kept = λ s x t is. is; possible_kept = λ s x t is. is }

pub move_tighter : (M : Meaning) (s x t : ℕ) (k : Kind) → M.kind s x t ≡ Optional → Tighter (with_move M s x t k) M
move_tighter M s x t k optional = record {
  same_sizes = refl;
  lights_kept = λ u l is. refl;
  certain_kept = λ u y v is. cond_both (test u y v) k (M.kind u y v) (λ m. certain m ≡ true) (λ e. absurd (both_ways false refl (subst (λ m. certain m ≡ true) (changed u y v e) is))) (λ _. is);
  possible_kept = λ u y v is. cond_both (test u y v) k (M.kind u y v) (λ m. possible m ≡ true → possible (M.kind u y v) ≡ true) (λ e _. ap possible (changed u y v e)) (λ _ h. h) is;
}
  where
    test : ℕ → ℕ → ℕ → Bool
    test u y v = eqb u s && eqb y x && eqb v t

    changed : (u y v : ℕ) → test u y v ≡ true → M.kind u y v ≡ Optional
    changed u y v e =
        let ends = and_parts (eqb u s && eqb y x) (eqb v t) e in
        let starts = and_parts (eqb u s) (eqb y x) ends.0 in
        let p : u ≡ s = eqb-true u s starts.0 in
        let q : y ≡ x = eqb-true y x starts.1 in
        let r : v ≡ t = eqb-true v t ends.1 in
        cc

pub light_tighter : (M : Meaning) (s l : ℕ) (v : Light) → M.light s l ≡ Unknown → Tighter (with_light M s l v) M
light_tighter M s l v unknown = record {
  same_sizes = refl;
  lights_kept = λ u i is. cond_both (test u i) v (M.light u i) (λ w. w ≡ M.light u i) (λ e. absurd (both_ways false refl (subst (λ w. known w ≡ true) (changed u i e) is))) (λ _. refl);
  certain_kept = λ u x t is. is;
  possible_kept = λ u x t is. is;
}
  where
    test : ℕ → ℕ → Bool
    test u i = eqb u s && eqb i l

    changed : (u i : ℕ) → test u i ≡ true → M.light u i ≡ Unknown
    changed u i e =
        let both = and_parts (eqb u s) (eqb i l) e in
        let p : u ≡ s = eqb-true u s both.0 in
        let q : i ≡ l = eqb-true i l both.1 in
        cc

pub tightening : Tightening
tightening = record {
  move = λ M s x t k optional. tighter_refines (with_move M s x t k) M (move_tighter M s x t k optional);
  light = λ M s l v unknown. tighter_refines (with_light M s l v) M (light_tighter M s l v unknown);
}

-- tightening changes no size
sizes_kept : (M N : Meaning) → Tightened M N → N.sizes ≡ M.sizes
sizes_kept M N same = refl
sizes_kept M N (moved k rest optional) = sizes_kept M _ rest
sizes_kept M N (lit v rest unknown) = sizes_kept M _ rest

alike_by : (N M : Meaning) → N.sizes ≡ M.sizes → Alike N M
alike_by N M e = record { same_actions = ap (λ z. z.actions) e; same_lamps = ap (λ z. z.lamps) e }

-- one step further, from N to the tighter L
kept_further : (M N L : Meaning) → N.sizes ≡ M.sizes → Tighter L N → (s : ℕ) → s < states M → Carries M s N s → Carries M s L s
kept_further M N L e tighter s lt carries f q m settled marked =
    preservation L N (alike_by L N tighter.same_sizes) s s (tighter_refined L N tighter s (subst (λ z. s < z.states) (sym e) lt)) f (question_of N M (alike_by N M e) f q) m settled (carries f q m settled marked)

pub kept : Kept
kept M N same s lt = λ f q m settled marked. marked
kept M N (moved {N = L} {s = u} {x} {t} k rest optional) s lt =
    kept_further M L (with_move L u x t k) (sizes_kept M L rest) (move_tighter L u x t k optional) s lt (kept M L rest s lt)
kept M N (lit {N = L} {s = u} {l} v rest unknown) s lt =
    kept_further M L (with_light L u l v) (sizes_kept M L rest) (light_tighter L u l v unknown) s lt (kept M L rest s lt)
