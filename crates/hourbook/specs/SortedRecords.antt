-- The records of an hour file, sorted by kind.
use Rattle.std.specs.Prelude.{ℕ, ◌+◌, ◌-◌, List, [], ◌∷◌, ◌++◌, map, length, replicate, ℤ, vec_items, slice_set}
use Rattle.hourbook.specs.declared.hourfile.gathered.Gathered.{Gathered}
use Rattle.hourbook.specs.declared.hourfile.gathered.NumberedLeg.{NumberedLeg}
use Rattle.hourbook.specs.declared.hourfile.«record».BorderRecord.{BorderRecord}
use Rattle.hourbook.specs.declared.hourfile.«record».OwnerRecord.{OwnerRecord}
use Rattle.hourbook.specs.declared.hourfile.«record».Record.{Record}
use Rattle.hourbook.specs.declared.hourfile.«record».Record.TheVariants.{Header, Zone, Border, Leg, Factor, Loss, Owner, End}
use Rattle.hourbook.specs.Tables.{border_said, cents_of, tenths_of}

-- zones by their prices and net positions, borders, legs with their numbers, losses by line, owner rows
pub record Sorted : Type 0 where
  pub prices : List ℤ
  pub positions : List ℤ
  pub borders : List BorderRecord
  pub legs : List NumberedLeg
  pub losses : List ℕ
  pub owners : List OwnerRecord

abbrev pub said : Gathered → Sorted
said g = record {
  prices = cents_of (vec_items g.prices);
  positions = tenths_of (vec_items g.positions);
  borders = map border_said (vec_items g.borders);
  legs = vec_items g.legs;
  losses = vec_items g.losses;
  owners = vec_items g.owners;
}

-- so many lines without a loss, and nothing else yet
abbrev pub unsorted : ℕ → Sorted
unsorted lines = record { prices = []; positions = []; borders = []; legs = []; losses = replicate lines 0; owners = [] }

-- one record more: legs are numbered from 1 as they come, and a loss stands at its line
abbrev pub plus : Sorted → Record → Sorted
plus s (Header x) = s
plus s (Zone x) = record { prices = s.prices ++ (x.price ∷ []); positions = s.positions ++ (x.position ∷ []); borders = s.borders; legs = s.legs; losses = s.losses; owners = s.owners }
plus s (Border x) = record { prices = s.prices; positions = s.positions; borders = s.borders ++ (x ∷ []); legs = s.legs; losses = s.losses; owners = s.owners }
plus s (Leg x) = record { prices = s.prices; positions = s.positions; borders = s.borders; legs = s.legs ++ (record { number = length s.legs + 1; line = x.line; contribution = x.contribution } ∷ []); losses = s.losses; owners = s.owners }
plus s (Factor x) = s
plus s (Loss x) = record { prices = s.prices; positions = s.positions; borders = s.borders; legs = s.legs; losses = slice_set s.losses (x.line - 1) x.loss; owners = s.owners }
plus s (Owner x) = record { prices = s.prices; positions = s.positions; borders = s.borders; legs = s.legs; losses = s.losses; owners = s.owners ++ (x ∷ []) }
plus s End = s
