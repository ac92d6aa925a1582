use Rattle.std.proofs.Common.{subst}
use Rattle.hourbook.specs.Naming.{AllNamed}
use Rattle.hourbook.specs.Passes.{FirstOut, Passed}
use Rattle.hourbook.proofs.HandedOn.{handed_on}
use Rattle.hourbook.proofs.Passing.{passed_weaker}
use Rattle.hourbook.proofs.hourfile.judge.names.Goals as goal

pub returns-in_err-follow-clause-rule : goal.returns-in_err-follow-clause-rule
returns-in_err-follow-clause-rule c =
    let told = c.in_err-follow.ensures.first in
    handed_on _ _ _ _ c.from_residual.ensures.1 (told.0, told.1, subst (λ n. FirstOut (AllNamed n) c.args.bytes.now told.0) c.new.ensures told.2)

pub returns-clause-rule : goal.returns-clause-rule
returns-clause-rule c = subst (λ n. Passed (AllNamed n) c.args.bytes.now) c.new.ensures (passed_weaker _ _ _ (λ rs h. h.0) c.in_ok-follow.ensures.first)
