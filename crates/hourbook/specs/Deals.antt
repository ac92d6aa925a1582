-- What the owners are credited, in order of the table.
use Rattle.std.specs.Prelude.{ℕ, List, map, vec_items}
use Rattle.sharing.specs.Shares.{shares}
use Rattle.sharing.specs.Writes.{cells}
use Rattle.sharing.specs.Levels.{dealt}
use Rattle.hourbook.specs.declared.entry.row.Row.{Row}
use Rattle.hourbook.specs.declared.entry.credit.Direction.TheVariants.{Received, Borne}
use Rattle.hourbook.specs.declared.entry.credit.Origin.{Origin}
use Rattle.hourbook.specs.declared.hourfile.owner.Owner.{Owner}
use Rattle.hourbook.specs.declared.hourfile.owner.OwnerRow.{OwnerRow}
use Rattle.hourbook.specs.declared.hourfile.owned_leg.OwnedLeg.{OwnedLeg}
use Rattle.hourbook.specs.declared.hourfile.owned_line.OwnedLine.{OwnedLine}
use Rattle.hourbook.specs.Owners.{keys}
use Rattle.hourbook.specs.Legs.{contributions}
use Rattle.hourbook.specs.Rows.{credit_row, directed}

-- a leg's amount goes to its owners by key
abbrev pub leg_deal : Origin → ℕ → ℕ → OwnedLeg → List Row
leg_deal origin line t leg = cells (λ (r : OwnerRow) s. credit_row origin line leg.number r.owner (directed Received s)) (vec_items leg.owners) (shares t (keys (vec_items leg.owners)))

-- a line's amount goes to its legs by contribution, and each leg's to its owners
abbrev pub line_deal : Origin → ℕ → OwnedLine → List Row
line_deal origin t line = dealt (leg_deal origin line.number) (shares t (contributions (vec_items line.legs))) (vec_items line.legs)

-- an amount is borne by the owners in equal shares, on no line and no leg
abbrev pub equal_deal : Origin → ℕ → List Owner → List Row
equal_deal origin t owners = cells (λ (o : Owner) s. credit_row origin 0 0 o.number (directed Borne s)) owners (shares t (map (λ (o : Owner). 1) owners))
