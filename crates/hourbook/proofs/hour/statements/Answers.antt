use Rattle.std.proofs.lemmas.Result.{IfOk-weaker}
use Rattle.hourbook.proofs.hour.statements.Goals as goal

pub returns : goal.returns
returns c = IfOk-weaker c.stated.result _ _ (λ t stated. record { file = c.in_ok-read.field-0; described = c.in_ok-read.ensures; stated = stated }) c.stated.ensures
