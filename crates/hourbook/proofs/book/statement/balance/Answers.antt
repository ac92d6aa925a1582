use Rattle.std.proofs.Common.{◌≤◌, get_or, length, arith, rules, ap, ◌∙◌, to_z, w32, w64, SFits}
use Rattle.std.proofs.lemmas.Grind.{common_steps}
use Rattle.std.proofs.lemmas.List.{take_all}
use borrow.Author.Count.{below_more}
use Rattle.hourbook.specs.Statements.{entry_line, own, balance_of}
use Rattle.hourbook.proofs.Owns.{blank}
use Rattle.hourbook.proofs.Short.{entry_short, statement_short}
use Rattle.hourbook.proofs.book.statement.balance.Goals as goal

pub loop-row-preserved : goal.loop-row-preserved
loop-row-preserved c =
    let row = get_or c.args.entries.now c.loop-row.row-index blank in
    let amount : SFits w32 c.from-entry.result.amount.value = search rules in
    let line : length (entry_line row) ≤ 37 = entry_short row (search rules) (search rules) (search rules) (search rules) c.from-entry.result.amount.value amount c.from-entry.ensures.amount in
    let short = below_more (λ k. length (entry_line (get_or c.args.entries.now k blank)) ≤ 37) c.loop-row.row-index c.loop-row.invariant.short line in
    record {
      sum = grind (arith, common_steps);
      bound = grind (arith, common_steps);
      short = short;
    }

pub returns-clause-short : goal.returns-clause-short
returns-clause-short c =
    let fits : SFits w64 (to_z w64 c.loop-row.sum-bits) = search rules in
    let all = take_all c.loop-row.row-index c.args.entries.now c.loop-row-test.false in
    statement_short c.args.owner c.args.entries.now (to_z w64 c.loop-row.sum-bits) (search rules) fits (c.loop-row.invariant.sum ∙ ap (λ es. balance_of (own c.args.owner es)) all) (λ k h. c.loop-row.invariant.short k (omega arith))
