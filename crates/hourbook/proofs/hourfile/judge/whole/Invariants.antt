use Rattle.std.specs.Iterator.Adapters.{enumerate_count, enumerate_source}
use Rattle.hourbook.proofs.Passing.{Passing}
use Rattle.hourbook.proofs.hourfile.judge.whole.Given as goal

abbrev pub invariant-loop-before : goal.invariant-loop-before
invariant-loop-before l = Passing l.bytes (enumerate_source l.before-iterator).records.rest.now (enumerate_count l.before-iterator)
