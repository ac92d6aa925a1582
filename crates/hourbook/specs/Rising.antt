-- The owners of a table, in rising number.
use Rattle.std.specs.Prelude.{ℕ, Bool, List, filter, vec_items, ◌==◌}
use Rattle.std.specs.List.{list_any, range_with_len}
use Rattle.hourbook.specs.declared.hourfile.owner.OwnerRow.{OwnerRow}
use Rattle.hourbook.specs.declared.hourfile.owner.Owner.{Owner}
use Rattle.hourbook.specs.declared.hourfile.owned_leg.OwnedLeg.{OwnedLeg}
use Rattle.hourbook.specs.declared.hourfile.owned_line.OwnedLine.{OwnedLine}

-- whether owner n has a row of the leg, of the line, of one of the lines
abbrev pub owns_leg : ℕ → OwnedLeg → Bool
owns_leg n leg = list_any (λ (r : OwnerRow). r.owner == n) (vec_items leg.owners)

abbrev pub owns_line : ℕ → OwnedLine → Bool
owns_line n line = list_any (owns_leg n) (vec_items line.legs)

abbrev pub owns : ℕ → List OwnedLine → Bool
owns n lines = list_any (owns_line n) lines

-- the owners with a number below k, each once, in rising number
unfoldable pub owners_below : List OwnedLine → ℕ → List ℕ
owners_below lines k = filter (λ n. owns n lines) (range_with_len 0 k)

abbrev pub owners_of : List OwnedLine → List ℕ
owners_of lines = owners_below lines 65

abbrev pub number_of : Owner → ℕ
number_of o = o.number
