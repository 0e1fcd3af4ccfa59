-- What is read from a line that was written is what was written.
use Rattle.std.proofs.Common.{◌≡◌, ℕ, ◌+◌, ◌<◌, true, false, List, [], ◌∷◌, ◌++◌, Some, codes, refl, arith, rules}
use Rattle.std.proofs.lemmas.Bool.{ne_eqb}
use Rattle.std.proofs.lemmas.Bool.Decides.{nat_tests}
use Rattle.std.specs.List.{AllByRecursion as All}
use Rattle.std.specs.Str.{bytes_eq}
use Rattle.systems.specs.declared.kinds.Modality.{Modality}
use Rattle.systems.specs.declared.kinds.Modality.TheVariants.{May, Must}
use Rattle.systems.specs.declared.kinds.Setting.{Setting}
use Rattle.systems.specs.declared.kinds.Setting.TheVariants.{On, Off}
use Rattle.systems.specs.declared.places.Sizes.{Sizes}
use Rattle.text.proofs.Before.{Without, without_append, without_cons}
use Rattle.text.proofs.Cuts.{cut_append}
use Rattle.text.proofs.Numerals.{decimal_digits, numeral_decimal, decimal_no_feed, decimal_no_blank}
use Rattle.text.specs.Numbers.{is_digit, decimal}
use Rattle.listings.specs.Forms.{lights_names, modality_word, setting_word, sizes_text, move_text, light_text, letter_in, modality_in, setting_in, sizes_in, move_in, light_in}
use Rattle.systems.specs.Entries.{MoveEntry, LightEntry}

-- a letter is one of the eight from the first on, and neither a blank nor a line feed
letter_shown : (first n : ℕ) → n < 8 → letter_in first ((first + n) ∷ []) ≡ Some n
letter_shown first n few = grind (arith, nat_tests)

letter_without : (b first n : ℕ) → b < first → Without b ((first + n) ∷ [])
letter_without b first n below = without_cons b (first + n) [] (ne_eqb (first + n) b (λ same. omega arith)) refl

modality_shown : (k : Modality) → modality_in (modality_word k) ≡ Some k
modality_shown May = refl
modality_shown Must = refl

modality_no_feed : (k : Modality) → Without 10 (modality_word k)
modality_no_feed May = refl
modality_no_feed Must = refl

setting_shown : (v : Setting) → setting_in (setting_word v) ≡ Some v
setting_shown On = refl
setting_shown Off = refl

setting_no_feed : (v : Setting) → Without 10 (setting_word v)
setting_no_feed On = refl
setting_no_feed Off = refl

-- the three forms of lines
pub sizes_shown : (z : Sizes) → z.states < 1000 → z.actions < 1000 → z.lamps < 1000 → z.start < 1000 → sizes_in (sizes_text z) ≡ Some z
sizes_shown z n k m s = grind (arith, cut_append, numeral_decimal, decimal_no_blank)

pub move_shown : (e : MoveEntry) → e.at.from < 1000 → e.at.action < 8 → e.at.to < 1000 → move_in (move_text e) ≡ Some e
move_shown e s a t = grind (arith, cut_append, numeral_decimal, decimal_no_blank, letter_shown, letter_without, modality_shown)

pub light_shown : (e : LightEntry) → e.at.state < 1000 → e.at.lamp < 8 → light_in (light_text e) ≡ Some e
light_shown e s l = grind (arith, cut_append, numeral_decimal, decimal_no_blank, letter_shown, letter_without, setting_shown)

-- none of them has a line feed
pub sizes_no_feed : (z : Sizes) → Without 10 (sizes_text z)
sizes_no_feed z = search (rules, without_append, without_cons, decimal_no_feed)

pub move_no_feed : (e : MoveEntry) → Without 10 (move_text e)
move_no_feed e = search (rules, without_append, without_cons, decimal_no_feed, letter_without, modality_no_feed)

pub light_no_feed : (e : LightEntry) → Without 10 (light_text e)
light_no_feed e = search (rules, without_append, without_cons, decimal_no_feed, letter_without, setting_no_feed)

-- a line that begins with a number is not the line of names, since no digit is a letter
digits_unlike_name : (w : List ℕ) (y : ℕ) (rest names : List ℕ) → 57 < y → All (λ b. is_digit b ≡ true) w → bytes_eq (w ++ (32 ∷ rest)) (y ∷ names) ≡ false
digits_unlike_name [] y rest names letter digits = grind (arith, nat_tests)
digits_unlike_name (x ∷ w) y rest names letter digits = grind (arith, nat_tests)

pub move_not_names : (e : MoveEntry) → bytes_eq (move_text e) lights_names ≡ false
move_not_names e =
    digits_unlike_name (decimal e.at.from) 115 _ (codes "tate lamp light") (omega arith) (decimal_digits e.at.from)
