-- Numbers of one to three digits in a text.
use Rattle.std.specs.Prelude.{ℕ, ◌+◌, ◌-◌, ◌*◌, ◌/◌, ◌%◌, Bool, cond, not, ◌&&◌, List, [], ◌∷◌, Some, None, Option, ◌==◌, nat_le, nat_lt}

-- the digits 0 to 9 are the bytes 48 to 57
abbrev pub is_digit : ℕ → Bool
is_digit b = nat_le 48 b && nat_le b 57

-- the text of a number of at most three digits, with no needless zero; of a larger one, nothing
abbrev pub decimal : ℕ → List ℕ
decimal n =
    cond (nat_lt n 10) ((48 + n) ∷ []) (cond (nat_lt n 100) ((48 + n / 10) ∷ (48 + n % 10) ∷ []) (cond (nat_lt n 1000) ((48 + n / 100) ∷ (48 + n / 10 % 10) ∷ (48 + n % 10) ∷ []) []))

-- The number that a text shows: one to three digits, and no needless zero in front.
abbrev pub numeral : List ℕ → Option ℕ
numeral [] = None
numeral (a ∷ []) = cond (is_digit a) (Some (a - 48)) None
numeral (a ∷ b ∷ []) = cond (is_digit a && is_digit b && not (a == 48)) (Some (10 * (a - 48) + (b - 48))) None
numeral (a ∷ b ∷ c ∷ []) = cond (is_digit a && is_digit b && is_digit c && not (a == 48)) (Some (100 * (a - 48) + 10 * (b - 48) + (c - 48))) None
numeral (a ∷ b ∷ c ∷ d ∷ rest) = None
