-- Texts written one after another.
use Rattle.std.proofs.Common.{◌≡◌, ℕ, List, ◌++◌, length, ap, ◌∙◌, arith, length-append}
use Rattle.text.proofs.Puts.{length_put, put_put, written_fits, next_fits}
use Rattle.text.specs.Bytes.{written, next_place}
use Rattle.text.specs.declared.writes.Writer.{Writer}
use Rattle.listings.specs.Writings.{Writes}

-- one text after another
pub writes_then : {a b c : Writer} {xs ys : List ℕ} → Writes a xs b → Writes b ys c → Writes a (xs ++ ys) c
writes_then {a} {b} {c} {xs} {ys} first second room =
    let sum = length-append xs ys in
    let one = first (omega (arith, sum)) in
    let same = ap length one.after ∙ length_put a.buffer.now a.at xs (omega (arith, sum)) in
    let two = second (omega (arith, sum, same, one.place)) in
    record {
      after = rw (two.after, one.after, one.place) (put_put a.buffer.now a.at xs ys (omega (arith, sum)));
      place = omega (arith, sum, one.place, two.place);
      lent = two.lent ∙ one.lent;
    }

-- what one call of a writer says of it
abbrev Put : Writer → List ℕ → Writer → Type 0
Put old bs new = record {
  after : new.buffer.now ≡ written old.buffer.now old.at bs;
  place : new.at ≡ next_place old.buffer.now old.at bs;
  lent : new.buffer.ghost_name ≡ old.buffer.ghost_name;
}

writes_put : (old new : Writer) (bs : List ℕ) → Put old bs new → Writes old bs new
writes_put old new bs called room = record {
  after = called.after ∙ written_fits old.buffer.now old.at bs room;
  place = called.place ∙ next_fits old.buffer.now old.at bs room;
  lent = called.lent;
}

pub writes_puts : (a b c : Writer) (xs ys : List ℕ) → Put a xs b → Put b ys c → Writes a (xs ++ ys) c
writes_puts a b c xs ys first second = writes_then (writes_put a b xs first) (writes_put b c ys second)
