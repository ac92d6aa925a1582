-- How many owner rows a leg, a line and a list of lines have.
use Rattle.std.specs.Prelude.{sum, ℕ, List, map, length, vec_items}
use Rattle.hourbook.specs.declared.hourfile.owned_leg.OwnedLeg.{OwnedLeg}
use Rattle.hourbook.specs.declared.hourfile.owned_line.OwnedLine.{OwnedLine}

abbrev pub leg_rows : OwnedLeg → ℕ
leg_rows leg = length (vec_items leg.owners)

abbrev pub line_rows : OwnedLine → ℕ
line_rows line = sum (map leg_rows (vec_items line.legs))

abbrev pub rows_of : List OwnedLine → ℕ
rows_of lines = sum (map line_rows lines)
