use Rattle.std.proofs.Common.{ℕ, ◌-◌, ◌<◌, ◌≤◌, get_or, min, ◌≡◌}
use Rattle.hourbook.proofs.hourfile.wholeness.add_up.Given as goal

-- each number before this one has a sum that suffices
abbrev pub invariant-loop-number : goal.invariant-loop-number
invariant-loop-number g l = (n s : ℕ) → 1 ≤ n → n < l.number → get_or l.sums.amounts (n - 1) 0 ≡ min s 65535 → g.R.SumRule.suffices s
