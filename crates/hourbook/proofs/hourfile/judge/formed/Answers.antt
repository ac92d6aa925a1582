use Rattle.std.proofs.Common.{sym, subst, inl, inr}
use Rattle.hourbook.specs.Counting.{Counted, Miscounts}
use Rattle.hourbook.specs.Ranging.{Ranged}
use Rattle.hourbook.proofs.HandedOn.{handed_on}
use Rattle.hourbook.proofs.hourfile.judge.formed.Goals as goal

pub returns-in_err-tally-clause-rules : goal.returns-in_err-tally-clause-rules
returns-in_err-tally-clause-rules c =
    let miscounts = subst (λ m. Miscounts c.args.bytes.now m c.in_err-tally.field-0.0) c.method.ensures c.in_err-tally.ensures.rule in
    handed_on _ _ _ _ c.from_residual-in_err-tally.ensures.1 (record { rule = inr (inr (inl (c.in_ok-header.header, c.in_ok-whole.ensures.rule, c.in_ok-header.ensures.rule, miscounts))) })

pub returns-clause-rules : goal.returns-clause-rules
returns-clause-rules c =
    let about = c.new.ensures.about in
    let counts = c.new.ensures.counts in
    record {
      header = c.in_ok-header.header;
      tally = c.in_ok-tally.tally;
      all_read = c.in_ok-whole.ensures.rule;
      well_ordered = c.in_ok-header.ensures.rule;
      counted = subst (λ m. Counted c.args.bytes.now m c.in_ok-tally.tally) c.method.ensures c.in_ok-tally.ensures.rule;
      ranged = subst (Ranged c.args.bytes.now c.in_ok-header.header) (sym about.2) c.in_ok-method.ensures.rule;
      says = record { hour = about.0; region = about.1; zones = counts.0; borders = counts.1; legs = counts.2 };
    }
