use Rattle.std.proofs.Common.{arith}
use Rattle.hourbook.proofs.Dealing.{length_leg}
use Rattle.hourbook.proofs.settlement.deal.deal_leg.Goals as goal

pub share_amount-requires-clause-room : goal.share_amount-requires-clause-room
share_amount-requires-clause-room c =
    let as_many = length_leg c.args.origin c.args.line c.args.amount.cents c.args.leg.now in
    omega (arith, as_many, c.deref.ensures.len)

pub returns-clause-count : goal.returns-clause-count
returns-clause-count c =
    let as_many = length_leg c.args.origin c.args.line c.args.amount.cents c.args.leg.now in
    omega (arith, as_many, c.args.leg.now.owners.ok.0)
