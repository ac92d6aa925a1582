use Rattle.std.proofs.Common.{◌≡◌, map, length, take, drop, pos}
use Rattle.sharing.specs.Writes.{written}
use Rattle.hourbook.specs.Worths.{weights}
use Rattle.hourbook.specs.LineRows.{line_rows_from}
use Rattle.hourbook.proofs.settlement.weights.write_weights.Given as goal

abbrev pub invariant-loop-k : goal.invariant-loop-k
invariant-loop-k g l =
    let ws = weights (g.R.Region.meaning l.region) in
    let k = length l.yielded in
    (l.rows.items ≡ take k (line_rows_from 1 ws))
    × (written l.work k (drop k (map pos ws)) ≡ written l.initial.work 0 (map pos ws))
