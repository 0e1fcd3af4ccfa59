-- The lines of a text.
use Rattle.std.proofs.Common.{◌≡◌, ℕ, zero, suc, ◌-◌, ◌<◌, true, false, List, [], ◌∷◌, ◌++◌, length, Some, refl, arith, MatchOption}
use Rattle.std.specs.Option.{option_map, option_and_then, unwrap_or}
use Rattle.std.proofs.lemmas.Bool.Decides.{nat_tests}
use Rattle.text.specs.Bytes.{cut}
use Rattle.text.specs.Lines.{lines, line_at}
use Rattle.text.proofs.Before.{Without}

-- a line with its feed, and the lines after it
pub lines_feed : (u rest : List ℕ) → Without 10 u → lines (u ++ 10 ∷ rest) ≡ record { bytes = u; ended = true } ∷ lines rest
lines_feed [] rest h = refl
lines_feed (x ∷ u) rest h = grind (arith, nat_tests, lines_feed u rest)

-- the lines of a text that is cut at a line feed, and of one that is not
pub lines_cut : (xs : List ℕ) → MatchOption (cut 10 xs) (0 < length xs → lines xs ≡ record { bytes = xs; ended = false } ∷ []) (λ p. lines xs ≡ record { bytes = p.0; ended = true } ∷ lines p.1)
lines_cut [] = λ l. absurd (omega arith)
lines_cut (x ∷ []) = grind (arith, nat_tests)
lines_cut (x ∷ y ∷ xs) = grind (arith, nat_tests, lines_cut (y ∷ xs))

-- the first line of a text by number, and any later one
pub line_first : (xs : List ℕ) → 0 < length xs → line_at (lines xs) 1 ≡ Some (unwrap_or (option_map (λ (p : List ℕ × List ℕ). p.0) (cut 10 xs)) xs)
line_first xs l = grind (arith, lines_cut xs)

pub line_later : (xs : List ℕ) (n : ℕ) → 1 < n → line_at (lines xs) n ≡ option_and_then (λ (p : List ℕ × List ℕ). line_at (lines p.1) (n - 1)) (cut 10 xs)
line_later xs zero l = absurd (omega arith)
line_later xs (suc zero) l = absurd (omega arith)
line_later [] (suc (suc n)) l = refl
line_later (x ∷ xs) (suc (suc n)) l = let e : suc (suc n) - 1 ≡ suc n = omega arith in rw e (grind (arith, lines_cut (x ∷ xs)))
