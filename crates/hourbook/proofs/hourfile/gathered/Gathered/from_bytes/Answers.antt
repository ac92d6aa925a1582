use Rattle.hourbook.proofs.Collect.{collects_next}
use Rattle.hourbook.proofs.HandedOn.{ok_from_mapped}
use Rattle.hourbook.proofs.hourfile.gathered.Gathered.from_bytes.Goals as goal

pub loop-before-preserved : goal.loop-before-preserved
loop-before-preserved c =
    let whole = ok_from_mapped _ c.in-Some.record c.map_err.result c.in_ok-record.record c.map_err.ensures.cases c.map_err.ensures.variant c.in_ok-record.was in
    let split = rw whole at c.in-Some.ensures.steps.0 in
    collects_next _ _ _ _ _ _ c.in_ok-record.record c.loop-before.invariant split c.in_ok-take.ensures
