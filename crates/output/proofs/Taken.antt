-- What a buffer that is just long enough holds after a frame was written into it.
use Rattle.std.proofs.Common.{◌≡◌, ℕ, ◌+◌, ◌≤◌, false, ltb, List, ◌++◌, length, take, drop, Ok, Err, ap, ◌∙◌, append_assoc, arith}
use Rattle.std.proofs.lemmas.Bool.{cond-false, le-ltb}
use Rattle.std.proofs.lemmas.Grind.{common_steps}
use Rattle.systems.specs.Meaning.{Meaning}
use Rattle.systems.specs.declared.refusal.Refusal.TheVariants.{Full}
use Rattle.text.specs.Bytes.{put}
use Rattle.listings.specs.Rooms.{room_of, write_answer, write_after}
use Rattle.listings.specs.Texts.{frame_text}

-- a text put at the front, read back
text_taken : (old text : List ℕ) (n len : ℕ) → n ≡ length text → n ≤ len → take n (take len (put old 0 text ++ drop (length (put old 0 text)) old)) ≡ text
text_taken old text n len is within =
    let rest = drop (0 + length text) old ++ drop (length (put old 0 text)) old in
    let joined : put old 0 text ++ drop (length (put old 0 text)) old ≡ text ++ rest = append_assoc text (drop (0 + length text) old) (drop (length (put old 0 text)) old) in
    ap (λ xs. take n (take len xs)) joined ∙ grind (arith, common_steps)

module _ (M : Meaning) (old now : List ℕ) (n len : ℕ) (room : length old ≡ room_of M) (answer : Ok n ≡ write_answer M old) (after : now ≡ write_after M old) where
  short : ltb (length old) (room_of M) ≡ false
  short = le-ltb (length old) (room_of M) (omega arith)

  written : now ≡ put old 0 (frame_text M)
  written = after ∙ cond-false (ltb (length old) (room_of M)) old (put old 0 (frame_text M)) short

  long : n ≡ length (frame_text M)
  long = let e : Ok n ≡ Ok (length (frame_text M)) = answer ∙ cond-false (ltb (length old) (room_of M)) (Err Full) (Ok (length (frame_text M))) short in cc

  pub taken : n ≤ len → take n (take len (now ++ drop (length now) old)) ≡ frame_text M
  taken within = rw written (text_taken old (frame_text M) n len long within)
