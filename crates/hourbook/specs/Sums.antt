-- Sums of two bytes each, one to a line or a leg.
use Rattle.std.specs.Prelude.{ℕ, ◌+◌, ◌-◌, min, List, slice_index, slice_set}

-- a sum that would pass two bytes stays at the largest
abbrev pub plus : List ℕ → ℕ → ℕ → List ℕ
plus sums n amount = slice_set sums (n - 1) (min (slice_index sums (n - 1) + amount) 65535)
