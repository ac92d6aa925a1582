use Rattle.std.proofs.Common.{inl, subst}
use Rattle.hourbook.specs.Passes.{FirstOut}
use Rattle.hourbook.proofs.Limits.{WithinInTurn, limited_from, limited_in_turn}
use Rattle.hourbook.proofs.HandedOn.{handed_on}
use Rattle.hourbook.proofs.Passing.{first_out_same}
use Rattle.hourbook.proofs.hourfile.judge.counts.Goals as goal

pub returns-in_err-tally-clause-rule : goal.returns-in_err-tally-clause-rule
returns-in_err-tally-clause-rule c =
    let told = c.in_err-tally.ensures.first in
    let from_none = subst (λ t. FirstOut (WithinInTurn t) c.args.bytes.now told.0) c.new.ensures told.2 in
    handed_on _ _ _ _ c.from_residual.ensures.1 (told.0, told.1, inl (first_out_same _ _ _ _ limited_from limited_in_turn from_none))
