-- Who owns what, by the records of an hour file.
use Rattle.std.specs.Prelude.{ℕ, List, map, vec_items, filter, nat_eq}
use Rattle.std.specs.List.{range_with_len}
use Rattle.hourbook.specs.declared.hourfile.gathered.NumberedLeg.{NumberedLeg}
use Rattle.hourbook.specs.declared.hourfile.owned_leg.OwnedLeg.{OwnedLeg}
use Rattle.hourbook.specs.declared.hourfile.owned_line.OwnedLine.{OwnedLine}
use Rattle.hourbook.specs.declared.hourfile.owner.OwnerRow.{OwnerRow}
use Rattle.hourbook.specs.declared.hourfile.«record».OwnerRecord.{OwnerRecord}

abbrev pub owner_row : OwnerRecord → OwnerRow
owner_row r = record { owner = r.owner; key = r.key }

-- the owner rows of a leg, in file order
abbrev pub rows_of_leg : ℕ → List OwnerRecord → List OwnerRow
rows_of_leg leg os = map owner_row (filter (λ (r : OwnerRecord). nat_eq r.leg leg) os)

-- what a leg says: its number, its contribution and its owner rows
pub record LegTold : Type 0 where
  pub number : ℕ
  pub contribution : ℕ
  pub rows : List OwnerRow

abbrev pub told : OwnedLeg → LegTold
told leg = record { number = leg.number; contribution = leg.contribution; rows = vec_items leg.owners }

abbrev pub leg_told : List OwnerRecord → NumberedLeg → LegTold
leg_told os leg = record { number = leg.number; contribution = leg.contribution; rows = rows_of_leg leg.number os }

-- the legs of a line, in rising number
abbrev pub legs_of_line : ℕ → List NumberedLeg → List OwnerRecord → List LegTold
legs_of_line line legs os = map (leg_told os) (filter (λ (l : NumberedLeg). nat_eq l.line line) legs)

-- what a line says: its number and its legs
pub record LineTold : Type 0 where
  pub number : ℕ
  pub legs : List LegTold

abbrev pub line_said : OwnedLine → LineTold
line_said line = record { number = line.number; legs = map told (vec_items line.legs) }

abbrev pub line_told : List NumberedLeg → List OwnerRecord → ℕ → LineTold
line_told legs os number = record { number = number; legs = legs_of_line number legs os }

-- so many lines, numbered from 1
abbrev pub lines_told : ℕ → List NumberedLeg → List OwnerRecord → List LineTold
lines_told count legs os = map (line_told legs os) (range_with_len 1 count)
