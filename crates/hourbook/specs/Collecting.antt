-- Records read from the front of the bytes, and sorted.
use Rattle.std.specs.Prelude.{◌≡◌, ℕ, List, [], ◌++◌, fold}
use Rattle.std.specs.List.{flat_map}
use Rattle.hourbook.specs.declared.hourfile.«record».Record.{Record}
use Rattle.hourbook.specs.Encoding.{encoded}
use Rattle.hourbook.specs.SortedRecords.{Sorted, plus, unsorted}

-- the bytes are the encodings of some records, one after another, and then rest; s is what these records add to the start
pub record Collects (bytes : List ℕ) (start s : Sorted) (rest : List ℕ) : Type 0 where
  pub records : List Record
  pub reads : flat_map encoded records ++ rest ≡ bytes
  pub says : s ≡ fold plus start records

-- the bytes are the encodings of some records, and nothing else; s is what these records say, in a file of so many lines
abbrev pub Collected : List ℕ → ℕ → Sorted → Type 0
Collected bytes lines s = Collects bytes (unsorted lines) s []
