-- The tables of an hour file, by its sorted records.
use Rattle.std.specs.Prelude.{◌≡◌, ℕ, List, map, length, vec_items}
use Rattle.hourbook.specs.declared.hourfile.census.Census.{Census}
use Rattle.hourbook.specs.declared.hourfile.hour_file.HourFile.{HourFile}
use Rattle.hourbook.specs.Collecting.{Collected}
use Rattle.hourbook.specs.Heading.{Heads}
use Rattle.hourbook.specs.Naming.{census_lines}
use Rattle.hourbook.specs.OwnershipRead.{line_said, lines_told}
use Rattle.hourbook.specs.SortedRecords.{Sorted}
use Rattle.hourbook.specs.Tables.{border_said, cents_of, tenths_of}

-- the file says what its records say
pub record Tabled (c : Census) (s : Sorted) (f : HourFile) : Type 0 where
  pub hour : f.hour ≡ c.hour
  pub method : f.network.method ≡ c.method
  pub zone_count : length (vec_items f.network.positions) ≡ c.zones
  pub border_count : length (vec_items f.network.borders) ≡ c.borders
  pub positions : tenths_of (vec_items f.network.positions) ≡ s.positions
  pub borders : map border_said (vec_items f.network.borders) ≡ s.borders
  pub prices : cents_of (vec_items f.prices.list) ≡ s.prices
  pub losses : vec_items f.losses.losses ≡ s.losses
  pub region : f.ownership.region.number ≡ c.region
  pub lines : map line_said (vec_items f.ownership.lines) ≡ lines_told (census_lines c) s.legs s.owners

-- the file says what the records say whose encodings the bytes are
pub record Describes (bytes : List ℕ) (f : HourFile) : Type 0 where
  pub census : Census
  pub heads : Heads bytes census
  pub sorted : Sorted
  pub collected : Collected bytes (census_lines census) sorted
  pub tabled : Tabled census sorted f
