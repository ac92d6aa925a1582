use Rattle.std.proofs.Common.{map}
use Rattle.sharing.specs.Shares.{counted}
use Rattle.sharing.specs.Counts.{all_count}
use Rattle.sharing.proofs.Turn.{Underway}
use Rattle.sharing.proofs.sharing.spread.Given as goal

abbrev pub invariant-loop-i : goal.invariant-loop-i
invariant-loop-i g l =
    Underway (g.K.Keeping.cell l.keeper) l.rows l.amount.cents (all_count l.counting) (counted (map g.R.Weighted.weighs l.rows)) l.initial.out l.at l.i l.run l.out
