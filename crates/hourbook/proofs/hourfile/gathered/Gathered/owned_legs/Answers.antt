use Rattle.std.proofs.Common.{nat_eq, rules, tests}
use Rattle.std.proofs.lemmas.Iterator.{YieldsList-from_slice}
use Rattle.std.proofs.lemmas.Iterator.Consumers.{YieldsList-at, YieldsList-from_filter}
use Rattle.hourbook.specs.declared.hourfile.gathered.NumberedLeg.{NumberedLeg}
use Rattle.hourbook.specs.OwnershipRead.{leg_told, told}
use Rattle.hourbook.proofs.TryCollected.{told_from_try_collect}
use Rattle.hourbook.proofs.hourfile.gathered.Gathered.owned_legs.Goals as goal

pub returns : goal.returns
returns c =
    told_from_try_collect told (leg_told c.args.self.now.owners.items) c.try_collect.result c.try_collect.ensures.ran
    (YieldsList-at c.map.ensures.source
    (YieldsList-from_filter _ (λ (l : NumberedLeg). nat_eq l.line c.args.line)
    (YieldsList-from_slice c.args.self.now.legs.items cc)
    c.filter.ensures.closure (λ x r q k. search (rules, tests))))
    c.map.ensures.closure (λ x r q k. search (rules, tests))
