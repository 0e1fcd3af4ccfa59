-- The digits read so far make a number of so many digits, and the rest adds to it what all make.
use Rattle.std.proofs.Common.{◌≡◌, ◌<◌, ◌^◌, drop}
use Rattle.text.proofs.Numerals.{read_on}
use Rattle.text.proofs.numbers.number.Given as goal

abbrev pub invariant-loop-byte : goal.invariant-loop-byte
invariant-loop-byte l =
    record {
      small : l.number < 10 ^ l.byte-index;
      read : read_on l.number (drop l.byte-index l.text) ≡ read_on 0 l.text;
    }
