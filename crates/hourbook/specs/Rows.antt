-- Entries as they lie in memory.
use Rattle.std.specs.Prelude.{ℕ, ℤ, pos, neg_ℤ}
use Rattle.hourbook.specs.declared.entry.kind.EntryKind.{EntryKind}
use Rattle.hourbook.specs.declared.entry.kind.EntryKind.TheVariants.{Credit, TakenBack, Payment}
use Rattle.hourbook.specs.declared.entry.row.Row.{Row}
use Rattle.hourbook.specs.declared.entry.credit.Direction.{Direction}
use Rattle.hourbook.specs.declared.entry.credit.Direction.TheVariants.{Received, Borne}
use Rattle.hourbook.specs.declared.entry.credit.Origin.{Origin}

-- C, T, P
abbrev pub letter_of : EntryKind → ℕ
letter_of Credit = 67
letter_of TakenBack = 84
letter_of Payment = 80

-- a share as an amount: received, or borne and so negated
abbrev pub directed : Direction → ℕ → ℤ
directed Received share = pos share
directed Borne share = neg_ℤ (pos share)

-- a credit of an hour and a region, on a line and a leg, to an owner
abbrev pub credit_row : Origin → ℕ → ℕ → ℕ → ℤ → Row
credit_row origin line leg owner amount = record {
  hour = origin.hour;
  amount = amount;
  kind = Credit;
  region = origin.region;
  line = line;
  leg = leg;
  owner = owner;
}
