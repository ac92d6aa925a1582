-- The regions that are settled in an opening.
use Rattle.std.specs.Prelude.{ℕ, ◌-◌, ◌/◌, ◌%◌, ◌^◌, Bool, ◌==◌}

-- bit k − 1 is set for region k
abbrev pub settled_in : ℕ → ℕ → Bool
settled_in mask k = mask / 2 ^ (k - 1) % 2 == 1
