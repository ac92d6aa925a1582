use Rattle.sharing.proofs.Through.{three_levels}
use Rattle.sharing.proofs.laws.three_levels_add_to_the_amount.Goals as goal

pub returns : goal.returns
returns c = three_levels
