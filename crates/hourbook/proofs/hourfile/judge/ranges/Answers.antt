use Rattle.std.proofs.Common.{◌≡◌, Some, inr, rules}
use Rattle.hourbook.specs.Lawful.{method_of}
use Rattle.hourbook.proofs.HandedOn.{handed_on}
use Rattle.hourbook.proofs.InTurn.{all_from, all_in_turn}
use Rattle.hourbook.proofs.Passing.{first_out_same, passed_weaker}
use Rattle.hourbook.proofs.hourfile.judge.ranges.Goals as goal

pub returns-in_err-follow-clause-rule : goal.returns-in_err-follow-clause-rule
returns-in_err-follow-clause-rule c =
    let known : method_of c.args.header.method ≡ Some c.in_ok-method.method = search rules in
    let told = c.in_err-follow.ensures.first in
    handed_on _ _ _ _ c.from_residual-in_err-follow.ensures.1 (told.0, told.1, inr (c.in_ok-method.method, known, first_out_same _ _ _ _ (all_from _ _) (all_in_turn _ _) told.2))

pub returns-clause-rule : goal.returns-clause-rule
returns-clause-rule c =
    let known : method_of c.args.header.method ≡ Some c.in_ok-method.method = search rules in
    (known, passed_weaker _ _ _ (λ rs h. all_from _ _ rs h.0) c.in_ok-follow.ensures.first)
