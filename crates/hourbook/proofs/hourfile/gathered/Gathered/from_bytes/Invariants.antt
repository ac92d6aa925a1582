use Rattle.std.specs.Iterator.Adapters.{enumerate_source}
use Rattle.hourbook.specs.Collecting.{Collects}
use Rattle.hourbook.specs.SortedRecords.{said}
use Rattle.hourbook.proofs.hourfile.gathered.Gathered.from_bytes.Given as goal

abbrev pub invariant-loop-before : goal.invariant-loop-before
invariant-loop-before l = Collects l.bytes (said l.initial.gathered) (said l.gathered) (enumerate_source l.before-iterator).records.rest.now
