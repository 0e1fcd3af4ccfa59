-- Numbers of one to three digits, and their texts.
use Rattle.std.proofs.Common.{◌≡◌, ℕ, ◌+◌, ◌-◌, ◌*◌, ◌<◌, ◌≤◌, true, false, cond, nat_lt, nat_le, ◌==◌, not, ◌&&◌, List, [], ◌∷◌, length, get_or, Some, None, Option, refl, arith}
use Rattle.std.specs.List.{AllByRecursion as All}
use Rattle.std.proofs.lemmas.Bool.Decides.{nat_tests}
use Rattle.text.specs.Numbers.{is_digit, decimal, numeral}
use Rattle.text.proofs.Before.{Without}

-- what is read from the text of a number is the number
pub numeral_decimal : (n : ℕ) → n < 1000 → numeral (decimal n) ≡ Some n
numeral_decimal n h = grind (arith, nat_tests)

-- and a number that is read from a text has that text
pub numeral_some : (w : List ℕ) (n : ℕ) → numeral w ≡ Some n → (n < 1000) × (w ≡ decimal n)
numeral_some [] n h = grind arith
numeral_some (a ∷ []) n h = grind (arith, nat_tests)
numeral_some (a ∷ b ∷ []) n h = grind (arith, nat_tests)
numeral_some (a ∷ b ∷ c ∷ []) n h = grind (arith, nat_tests)
numeral_some (a ∷ b ∷ c ∷ d ∷ rest) n h = grind arith

-- the number that the digits w make after those of n, however many they are
abbrev pub read_on : ℕ → List ℕ → Option ℕ
read_on n [] = Some n
read_on n (b ∷ w) = cond (is_digit b) (read_on (10 * n + (b - 48)) w) None

-- a number is its digits, one to three of them, where no needless zero stands in front
pub numeral_read : (w : List ℕ) → numeral w ≡ cond (nat_lt 0 (length w) && nat_le (length w) 3 && not (nat_lt 1 (length w) && (get_or w 0 0 == 48))) (read_on 0 w) None
numeral_read [] = refl
numeral_read (a ∷ []) = grind (arith, nat_tests)
numeral_read (a ∷ b ∷ []) = grind (arith, nat_tests)
numeral_read (a ∷ b ∷ c ∷ []) = grind (arith, nat_tests)
numeral_read (a ∷ b ∷ c ∷ d ∷ w) = grind (arith, nat_tests)

-- how long the text of a number is
pub length_decimal : (n : ℕ) → n < 1000 → (1 ≤ length (decimal n)) × (length (decimal n) ≤ 3)
length_decimal n h = grind (arith, nat_tests)

pub length_decimal_two : (n : ℕ) → n < 100 → length (decimal n) ≤ 2
length_decimal_two n h = grind (arith, nat_tests)

pub length_decimal_one : (n : ℕ) → n < 10 → length (decimal n) ≡ 1
length_decimal_one n h = grind (arith, nat_tests)

-- each byte of the text of a number is a digit, so a byte that is none does not stand in it
pub decimal_digits : (n : ℕ) → All (λ b. is_digit b ≡ true) (decimal n)
decimal_digits n = grind (arith, nat_tests)

pub decimal_without : (b n : ℕ) → is_digit b ≡ false → Without b (decimal n)
decimal_without b n d = grind (arith, nat_tests)

pub decimal_no_feed : (n : ℕ) → Without 10 (decimal n)
decimal_no_feed n = grind (arith, nat_tests)

pub decimal_no_blank : (n : ℕ) → Without 32 (decimal n)
decimal_no_blank n = grind (arith, nat_tests)
