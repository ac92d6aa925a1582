use Rattle.std.proofs.Common.{sym, ◌∙◌}
use Rattle.hourbook.specs.LossBounds.{length-lessen}
use Rattle.hourbook.proofs.region.losses.LossesRegion.line_count.Goals as goal

pub returns-clause-value : goal.returns-clause-value
returns-clause-value g c = c.line_count.ensures.value ∙ sym (length-lessen _ _)
