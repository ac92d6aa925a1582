-- The numbers in the tables of a region.
use Rattle.std.specs.Prelude.{ℕ, ◌-◌, List, map, ℤ, pos, slice_index_or}
use Rattle.hourbook.specs.declared.hourfile.border.Border.{Border}
use Rattle.hourbook.specs.declared.hourfile.«record».BorderRecord.{BorderRecord}
use Rattle.hourbook.specs.declared.within.Within.{Within}

-- in cents per MWh, and in tenths of a MW
abbrev pub Price : Type 0
Price = Within 500000

abbrev pub NetPosition : Type 0
NetPosition = Within 1000000

abbrev pub cents_of : List Price → List ℤ
cents_of ps = map (λ (p : Price). p.value) ps

abbrev pub tenths_of : List NetPosition → List ℤ
tenths_of ns = map (λ (n : NetPosition). n.value) ns

-- a border, as its record says it
abbrev pub border_said : Border → BorderRecord
border_said b = record { near = b.near; far = b.far; capacity = b.capacity.value }

-- the price of a zone by its number, which counts from 1
abbrev pub price_at : List ℤ → ℕ → ℤ
price_at ps zone = slice_index_or ps (zone - 1) (pos 0)
