use Rattle.std.proofs.Common.{map, sym}
use Rattle.std.proofs.lemmas.List.{length-map}
use Rattle.sharing.proofs.Counted.{whole_heavy, counted_within}
use Rattle.sharing.proofs.counting.count.Goals as goal

pub returns-in_err-weigh : goal.returns-in_err-weigh
returns-in_err-weigh g c = rw c.from_residual.ensures (whole_heavy (map g.R.Weighted.weighs c.args.rows.now) c.in_err-weigh.ensures)

pub returns : goal.returns
returns g c =
    counted_within (map g.R.Weighted.weighs c.args.rows.now) _ _ c.in_ok-weigh.ensures.0 (sym (length-map c.args.rows.now g.R.Weighted.weighs)) _
    (rw (← c.new-counting.ensures, ← c.sum.ensures) c.then_some.ensures)
