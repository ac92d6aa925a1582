use Rattle.std.proofs.Common.{sym, subst}
use Rattle.std.specs.Iterator.Adapters.{enumerate_source}
use Rattle.hourbook.proofs.Passing.{Passing, passing_next}
use Rattle.hourbook.proofs.hourfile.judge.whole.Goals as goal

pub loop-before-preserved : goal.loop-before-preserved
loop-before-preserved c =
    let steps = c.in-Some.ensures.steps in
    let split = rw c.in-Ok.is at steps.0 in
    subst (Passing c.args.bytes.now (enumerate_source c.next.new.self).records.rest.now) (sym steps.2) (passing_next _ _ _ _ c.in-Ok.field-0 c.loop-before.invariant split)
