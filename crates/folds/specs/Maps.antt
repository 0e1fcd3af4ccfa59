-- What of a map can be seen without the system: its classes and their count.
use Rattle.std.specs.Prelude.{ℕ, Bool, ◌&&◌, List, nat_le, nat_lt, slice_index}
use Rattle.sets.specs.Sets.{width}
use Rattle.systems.specs.Bounded.{all}

-- a count of classes that a frame could have, and every class below it
unfoldable pub are_classes : List ℕ → ℕ → Bool
are_classes cs count = nat_le 1 count && nat_le count width && all 256 (λ s. nat_lt (slice_index cs s) count)
