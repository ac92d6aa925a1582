use Rattle.std.proofs.Common.{length, map, nat_abs, take}
use Rattle.std.specs.Iterator.Adapters.{zip_first, zip_second}
use Rattle.std.specs.Slice.Iter.{iter_rest}
use Rattle.hourbook.specs.Deals.{leg_deal, line_deal}
use Rattle.hourbook.proofs.Dealing.{Dealing}
use Rattle.hourbook.proofs.settlement.deal.deal_line.Given as goal

-- the parts past the last leg are left out
abbrev pub invariant-loop-leg : goal.invariant-loop-leg
invariant-loop-leg l =
    let legs = iter_rest (zip_first l.leg-iterator) in
    let parts = take (length legs) (iter_rest (zip_second l.leg-iterator)) in
    Dealing (leg_deal l.origin l.line.number) (map nat_abs parts) legs l.initial.out (line_deal l.origin l.fn.amount.cents l.line) l.count l.out
