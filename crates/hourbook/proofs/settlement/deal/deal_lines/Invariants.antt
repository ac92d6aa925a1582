use Rattle.std.proofs.Common.{map, nat_abs}
use Rattle.std.specs.Iterator.Adapters.{zip_first, zip_second}
use Rattle.std.specs.Slice.Iter.{iter_rest}
use Rattle.sharing.specs.Levels.{dealt}
use Rattle.hourbook.specs.Deals.{line_deal}
use Rattle.hourbook.proofs.Dealing.{Dealing}
use Rattle.hourbook.proofs.settlement.deal.deal_lines.Given as goal

abbrev pub invariant-loop-line : goal.invariant-loop-line
invariant-loop-line l =
    let deal = line_deal l.origin in
    let left = l.line-iterator in
    Dealing deal (map nat_abs (iter_rest (zip_second left))) (iter_rest (zip_first left)) l.initial.out (dealt deal (map nat_abs l.amounts) l.lines) l.count l.out
