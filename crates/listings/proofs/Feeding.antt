-- The run over a text, one line after another.
use Rattle.std.proofs.Common.{◌≡◌, ℕ, ◌+◌, ◌<◌, Bool, true, false, List, [], ◌∷◌, length, Ok, Err, Some, None, MatchOption, eqb, sym, refl, add-one, arith}
use Rattle.std.proofs.lemmas.Bool.Decides.{nat_tests}
use Rattle.systems.specs.declared.refusal.Refusal.TheVariants.{Form}
use Rattle.text.proofs.Feeds.{lines_cut}
use Rattle.text.specs.Bytes.{cut}
use Rattle.text.specs.Lines.{lines}
use Rattle.listings.specs.Runs.{Judged, Verdict, rejected, too_long, judged, ended, early, open_line, refused, next}
use Rattle.listings.specs.declared.rejection.Rejection.{Rejection}

cut_length : (xs : List ℕ) → MatchOption (cut 10 xs) (Unit {0}) (λ p. length p.1 < length xs)
cut_length [] = tt
cut_length (x ∷ []) = grind (arith, nat_tests)
cut_length (x ∷ y ∷ xs) = grind (arith, nat_tests, cut_length (y ∷ xs))

-- what follows a line is shorter than the text
pub cut_shorter : (xs : List ℕ) {line rest : List ℕ} → Some (line, rest) ≡ cut 10 xs → length rest < length xs
cut_shorter xs is = rw (sym is) at (cut_length xs)

module _ {P : Type 0} {takes : P → ℕ → List ℕ → P → Verdict → Type 0} {complete : P → Bool} {n : ℕ} {p : P} (xs : List ℕ) where
  pub one_more : {line rest : List ℕ} {q r : P} {v : Verdict} → Some (line, rest) ≡ cut 10 xs → takes p n line q (Ok tt) → Judged takes complete (n + 1) (lines rest) q r v → Judged takes complete n (lines xs) p r v
  one_more is took more = rw (rw (sym is) at (lines_cut xs)) (next refl took (rw add-one at more))

  pub stopped : {line rest : List ℕ} {q : P} {e : Rejection} → Some (line, rest) ≡ cut 10 xs → takes p n line q (Err e) → Judged takes complete n (lines xs) p q (Err e)
  stopped is took = rw (rw (sym is) at (lines_cut xs)) (refused refl took)

  pub not_ended : None ≡ cut 10 xs → false ≡ eqb (length xs) 0 → Judged takes complete n (lines xs) p p (Err (rejected Form n))
  not_ended is some = rw ((rw (sym is) at (lines_cut xs)) (grind (arith, nat_tests))) (open_line refl)

-- nothing is left
pub at_end : {P : Type 0} {takes : P → ℕ → List ℕ → P → Verdict → Type 0} {complete : P → Bool} {n : ℕ} {p q : P} {v : Verdict} (xs : List ℕ) → true ≡ eqb (length xs) 0 → Judged takes complete n [] p q v → Judged takes complete n (lines xs) p q v
at_end [] none last = last
at_end (x ∷ xs) none last = absurd (grind (arith, nat_tests))

-- what a run over a text is made of
pub ruleset feeding = (cut_shorter, one_more, stopped, not_ended, at_end, too_long, judged, ended, early)
