use Rattle.std.proofs.Common.{sum, ◌≡◌, ◌+◌, ◌≤◌, map, drop}
use Rattle.sharing.proofs.rows.weigh.Given as goal

-- what is summed and what is to come make the whole
abbrev pub invariant-loop-row : goal.invariant-loop-row
invariant-loop-row g l =
    let weighs = g.R.Weighted.weighs in
    (l.sum + sum (map weighs (drop l.row-index l.rows)) ≡ sum (map weighs l.rows)) × (l.sum ≤ 4000000000)
