use Rattle.std.proofs.Common.{◌+◌, arith, rules, tests}
use Rattle.std.proofs.lemmas.Iterator.{YieldsList-from_range}
use Rattle.hourbook.specs.OwnershipRead.{line_said, line_told}
use Rattle.hourbook.proofs.TryCollected.{told_from_try_collect}
use Rattle.hourbook.proofs.hourfile.gathered.Gathered.owned_lines.Goals as goal

pub returns : goal.returns
returns c =
    told_from_try_collect line_said (line_told c.args.self.now.legs.items c.args.self.now.owners.items) c.try_collect.result c.try_collect.ensures.ran
    (YieldsList-from_range 1 (c.args.count + 1) c.args.count c.map.ensures.source (omega arith))
    c.map.ensures.closure (λ x r q k. search (rules, tests))
