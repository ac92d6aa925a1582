-- Signed sums.
use Rattle.std.specs.Prelude.{List, ℤ, pos, ◌+ℤ◌, fold}

abbrev pub sum_z : List ℤ → ℤ
sum_z zs = fold ◌+ℤ◌ (pos 0) zs
