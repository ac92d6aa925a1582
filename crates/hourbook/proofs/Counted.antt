-- How many owner rows legs and lines have. Assumes nothing.
use Rattle.std.proofs.Common.{◌*◌, ◌≤◌, List, [], ◌∷◌, length, arith}
use Rattle.std.specs.List.{sum_by}
use Rattle.std.proofs.lemmas.List.Sums.{sum_by-cons}
use Rattle.hourbook.specs.declared.hourfile.owned_leg.OwnedLeg.{OwnedLeg}
use Rattle.hourbook.specs.OwnerRows.{leg_rows}

pub few_leg_rows : (legs : List OwnedLeg) → sum_by leg_rows legs ≤ length legs * 128
few_leg_rows [] = omega arith
few_leg_rows (leg ∷ legs) = omega (arith, sum_by-cons leg_rows leg legs, few_leg_rows legs, leg.few, leg.owners.ok.0)
