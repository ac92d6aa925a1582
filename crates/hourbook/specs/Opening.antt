-- What settling changes in an open book.
use Rattle.std.specs.Prelude.{◌≡◌, ℕ, ◌+◌, ◌≤◌, min, ◌||◌, ℤ, vec_len, ◌==◌}
use Rattle.hourbook.specs.declared.book.OpenBook.{OpenBook}
use Rattle.hourbook.specs.declared.entry.credit.Origin.{Origin}
use Rattle.hourbook.specs.declared.hourfile.ownership.Ownership.{Ownership}
use Rattle.hourbook.specs.Meaning.{Meaning}
use Rattle.hourbook.specs.Settled.{Accepted, needed}
use Rattle.hourbook.specs.SettledIn.{settled_in}

-- how many lines a table has
abbrev pub lines_in : Ownership → ℕ
lines_in table = vec_len table.lines

-- what holds where a settling is accepted
pub record Admits (m : Meaning) (table : Ownership) (used size places : ℕ) (income : ℤ) : Type 0 where
  pub accepted : Accepted m (lines_in table) size income
  pub free : used + needed income table ≤ min places 1000000

-- the credits are of the hour that is open and the region of the table
abbrev pub origin_of : OpenBook → Ownership → Origin
origin_of book table = record { hour = book.hour; region = table.region.number }

-- the book after an accepted settling
pub record Advanced (before after : OpenBook) (table : Ownership) (income : ℤ) : Type 0 where
  pub rest : after.rest ≡ before.rest
  pub hour : after.hour ≡ before.hour
  pub used : after.used ≡ before.used + needed income table
  pub settled : (k : ℕ) → 1 ≤ k → k ≤ 32 → settled_in after.settled k ≡ (k == table.region.number || settled_in before.settled k)
