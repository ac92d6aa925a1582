use Rattle.std.proofs.Common.{◌≡◌, vec_items, arith, rules}
use Rattle.std.specs.List.{sum_by}
use Rattle.std.proofs.iter.runs.Made.{chains}
use Rattle.hourbook.specs.OwnerRows.{leg_rows}
use Rattle.hourbook.proofs.Counted.{few_leg_rows}
use Rattle.hourbook.proofs.hourfile.owned_line.OwnedLine.row_count.Goals as goal

pub sum-requires-clause-fits : goal.sum-requires-clause-fits
sum-requires-clause-fits c =
    let legs = vec_items c.args.self.now.legs in
    let few = few_leg_rows legs in
    search (rules, chains)

pub returns-clause-few : goal.returns-clause-few
returns-clause-few c =
    let legs = vec_items c.args.self.now.legs in
    let all : c.sum.result ≡ sum_by leg_rows legs = search (rules, chains) in
    let few = few_leg_rows legs in
    omega arith
