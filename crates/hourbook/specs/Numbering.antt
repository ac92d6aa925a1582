-- How zones, borders, legs and lines are numbered: from 1, in the order of the file.
use Rattle.std.specs.Prelude.{ℕ, ◌+◌, ◌≤◌}
use Rattle.hourbook.specs.declared.hourfile.method.Method.{Method}
use Rattle.hourbook.specs.declared.hourfile.method.Method.TheVariants.{FlowBased, Coordinated}

-- one of so many
abbrev pub Numbered : ℕ → ℕ → Type 0
Numbered count n = (1 ≤ n) × (n ≤ count)

-- the borders, and in the flow-based method an external line for each zone
abbrev pub lines_of : Method → ℕ → ℕ → ℕ
lines_of FlowBased zones borders = borders + zones
lines_of Coordinated zones borders = borders
