use Rattle.std.proofs.lemmas.Result.{IfOk-weaker}
use Rattle.hourbook.specs.SortedRecords.{said}
use Rattle.hourbook.specs.TablesRead.{Describes, Tabled}
use Rattle.hourbook.proofs.hourfile.read.read.Goals as goal

pub returns : goal.returns
returns c = IfOk-weaker c.new.result (Tabled c.in_ok-census.census (said c.in_ok-gathered.gathered)) (Describes c.args.bytes.now)
    (λ file tabled. record {
      census = c.in_ok-census.census;
      heads = c.in_ok-census.ensures.heads;
      sorted = said c.in_ok-gathered.gathered;
      collected = c.in_ok-gathered.ensures;
      tabled = tabled;
    })
    c.new.ensures
