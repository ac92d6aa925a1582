use Rattle.hourbook.proofs.Summing.{SumsSoFar}
use Rattle.hourbook.proofs.hourfile.wholeness.sums_of.Given as goal

abbrev pub invariant-loop-record : goal.invariant-loop-record
invariant-loop-record g l = SumsSoFar g.R.SumRule.adds l.bytes l.record-iterator.rest.now l.sums.amounts
