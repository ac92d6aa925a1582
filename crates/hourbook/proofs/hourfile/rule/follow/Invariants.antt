use Rattle.std.specs.Iterator.Adapters.{enumerate_count, enumerate_source}
use Rattle.hourbook.proofs.InTurn.{Following}
use Rattle.hourbook.proofs.hourfile.rule.follow.Given as goal

abbrev pub invariant-loop-before : goal.invariant-loop-before
invariant-loop-before g l =
    let rule = g.R.Rule in record {
      follows : Following rule.passes rule.after l.bytes (enumerate_source l.before-iterator).rest.now (enumerate_count l.before-iterator) l.fn.rule l.rule;
      ready : rule.ready l.rule;
    }
