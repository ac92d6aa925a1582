use Rattle.std.proofs.Common.{map, nat_abs, vec_items, arith}
use Rattle.std.proofs.lemmas.Int.{ints}
use Rattle.std.proofs.lemmas.List.{length-map}
use Rattle.hourbook.proofs.Dealing.{length_lines}
use Rattle.hourbook.proofs.Parts.{sum-ones, needed_loss, needed_income}
use Rattle.hourbook.proofs.settlement.settle.pay.Goals as goal

pub share_amount-requires : goal.share_amount-requires
share_amount-requires c =
    let t = c.args.table.now in
    let one = sum-ones (vec_items t.owners) in
    let need = needed_loss c.args.income t (omega (arith, ints)) in
    rw c.deref.ensures.value (record { light = omega arith; few = omega arith; room = omega arith })

pub deal_lines-requires : goal.deal_lines-requires
deal_lines-requires c =
    let t = c.args.table.now in
    let n = length-map c.args.parts.now nat_abs in
    let all = length_lines c.args.origin (map nat_abs c.args.parts.now) (vec_items t.lines) (omega arith) in
    let need = needed_income c.args.income t (omega (arith, ints)) in
    rw c.deref-else-income-lt0.ensures.value (record { small = c.requires.parts; long = omega arith; room = omega arith })
