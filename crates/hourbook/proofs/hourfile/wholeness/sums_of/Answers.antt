use Rattle.std.proofs.Common.{ap}
use Rattle.hourbook.proofs.Summing.{sums_next, sums_same, sums_start}
use Rattle.hourbook.proofs.hourfile.wholeness.sums_of.Goals as goal

pub loop-record-init : goal.loop-record-init
loop-record-init g c = sums_start _ _ _ _ (cc) c.new-sums.ensures

pub loop-record-preserved-in-Some-part : goal.loop-record-preserved-in-Some-part
loop-record-preserved-in-Some-part g c =
    sums_next _ _ _ _ c.loop-record.invariant _ c.in-Some.record c.in-Some.ensures.steps _ c.in-Some-part.number c.in-Some-part.amount c.in-Some-part.ensures c.add.ensures.adds (λ out. ap (λ t. t.amounts) (c.add.ensures.same out))

pub loop-record-preserved : goal.loop-record-preserved
loop-record-preserved g c = sums_same _ _ _ _ c.loop-record.invariant _ c.in-Some.record c.in-Some.ensures.steps c.in_default.ensures
