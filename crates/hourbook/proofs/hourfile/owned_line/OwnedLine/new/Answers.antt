use Rattle.std.proofs.Common.{arith}
use Rattle.hourbook.proofs.hourfile.owned_line.OwnedLine.new.Goals as goal

pub invariant_of-result : goal.invariant_of-result
invariant_of-result c =
    let weighed = rw c.as_slice.ensures.value at c.in_ok-sum.ensures in
    record { few = omega arith; some = omega (arith, weighed.0); light = omega (arith, weighed.0, weighed.1) }
