use Rattle.std.proofs.Common.{◌≡◌, ◌-◌, map, length, take, drop, pos, ap, ◌∙◌, arith}
use Rattle.std.proofs.lemmas.List.{length-map}
use Rattle.sharing.specs.Shares.{shares}
use Rattle.sharing.specs.Writes.{written, cells}
use Rattle.sharing.proofs.Cells.{cells_plain}
use Rattle.sharing.proofs.Lawful.{length-shares}
use Rattle.hourbook.specs.Worths.{weights, weight}
use Rattle.hourbook.specs.LineRows.{line_rows_from}
use Rattle.hourbook.proofs.LineRowed.{length_rows, rows_weigh}
use Rattle.hourbook.proofs.Rest.{rest_room, written_rest}
use Rattle.hourbook.proofs.Parts.{both}
use Rattle.hourbook.proofs.settlement.settle.fill_work.Goals as goal

pub share_amount-requires : goal.share_amount-requires
share_amount-requires g c =
    let m = g.R.Region.meaning c.args.region.now in
    let ws = weights m in
    let long = length-map m.lines weight in
    let count = length_rows 1 ws in
    let rows_are = c.deref.ensures.0 ∙ c.write_weights-rows.ensures.rows in
    let room = rest_room c.write_weights-rows.new.work c.line_count.result (length ws) (omega arith) in
    rw rows_are (record { light = rw (rows_weigh 1 ws) c.requires.light; few = omega arith; room = omega arith })

pub returns : goal.returns
returns g c =
    let m = g.R.Region.meaning c.args.region.now in
    let ws = weights m in
    let rows = line_rows_from 1 ws in
    let at = c.line_count.result in
    let ss = shares c.args.amount.cents ws in
    let long = length-map m.lines weight in
    let count = length_rows 1 ws in
    let plain : cells (λ _ s. pos s) rows ss ≡ map pos ss = cells_plain rows ss (omega (arith, length-shares c.args.amount.cents ws)) in
    let rest = take (length c.write_weights-rows.new.work - at) (drop at c.write_weights-rows.new.work) in
    let rows_are = c.deref.ensures.0 ∙ c.write_weights-rows.ensures.rows in
    let shared = rw rows_are at c.share_amount.ensures in
    let shared_by_weight = rw (rows_weigh 1 ws) at shared in
    written_rest c.write_weights-rows.new.work at (map pos ss) c.share_amount.new.out (omega arith) (shared_by_weight ∙ ap (written rest 0) plain)
    ∙ (ap (λ w. written w at (map pos ss)) c.write_weights-rows.ensures.work
    ∙ both c.args.work.now ws ss at (omega arith) (omega arith))
