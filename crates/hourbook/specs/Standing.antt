-- Which hours stand.
use Rattle.std.specs.Prelude.{ℕ, Bool, true, false, if◌then◌else◌, List, fold, ◌==◌}
use Rattle.hourbook.specs.declared.entry.kind.EntryKind.{EntryKind}
use Rattle.hourbook.specs.declared.entry.kind.EntryKind.TheVariants.{Credit, TakenBack, Payment}
use Rattle.hourbook.specs.declared.entry.row.Row.{Row}

-- what an entry's kind makes of whether its hour stands
abbrev pub after : EntryKind → Bool → Bool
after Credit s = true
after TakenBack s = false
after Payment s = s

-- a credit and a credit taken back decide, and a payment does not
abbrev pub decides : EntryKind → Bool
decides Credit = true
decides TakenBack = true
decides Payment = false

-- an entry of the hour decides by its kind, and another leaves it
abbrev pub turn : ℕ → Bool → Row → Bool
turn hour s e = if e.hour == hour then after e.kind s else s

-- an hour stands where the last of its entries of kind C or T has kind C
abbrev pub standing : ℕ → List Row → Bool
standing hour es = fold (turn hour) false es
