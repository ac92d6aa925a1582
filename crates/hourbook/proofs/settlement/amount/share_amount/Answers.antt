use Rattle.std.proofs.Common.{◌≡◌, List, ℕ, ◌≤◌, map, length, Ok, refl, arith}
use Rattle.std.proofs.lemmas.List.{length-map}
use Rattle.sharing.specs.Answers.{judged}
use Rattle.sharing.specs.Shares.{whole}
use Rattle.sharing.proofs.Cells.{accepted}
use Rattle.sharing.proofs.Counted.{whole_light}
use Rattle.hourbook.proofs.settlement.amount.share_amount.Goals as goal

pub unwrap-requires : goal.unwrap-requires
unwrap-requires g c =
    let ws : List ℕ = map g.R.Weighted.weighs c.args.rows.now in
    let all : whole ws ≤ 4000000000 = whole_light ws c.requires.light (rw length-map c.requires.few) in
    let ok : judged c.from.result (length c.args.rows.now) (whole ws) (length c.args.out.now) 0 ≡ Ok tt = accepted c.from.result (length c.args.rows.now) (whole ws) (length c.args.out.now) 0 (omega arith) (omega arith) all in
    rw (c.share.ensures.answer, ok) refl
