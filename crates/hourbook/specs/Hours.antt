-- One hour in an empty book.
use Rattle.std.specs.Prelude.{◌≡◌, ℕ, List, vec_items, Result}
use Rattle.hourbook.specs.declared.book.fault.BookFault.TheVariants.{Settlement}
use Rattle.hourbook.specs.declared.hour.Failure.{Failure}
use Rattle.hourbook.specs.declared.hour.Failure.TheVariants.{Refused, Memory}
use Rattle.hourbook.specs.declared.hourfile.fault.FileFault.{FileFault}
use Rattle.hourbook.specs.declared.hourfile.fault.FileFault.TheVariants as file
use Rattle.hourbook.specs.declared.region.fault.RegionFault.TheVariants.{File}
use Rattle.hourbook.specs.declared.settlement.fault.SettlementFault.TheVariants.{Region}
use Rattle.hourbook.specs.declared.entry.row.Row.{Row}
use Rattle.hourbook.specs.declared.entry.credit.Origin.{Origin}
use Rattle.hourbook.specs.declared.hourfile.owner.Owner.{Owner}
use Rattle.hourbook.specs.declared.hourfile.ownership.Ownership.{Ownership}
use Rattle.hourbook.specs.declared.hourfile.hour_file.HourFile.{HourFile}
use Rattle.hourbook.specs.declared.region.fault.Flaw.{Flaw}
use Rattle.std.specs.List.{flat_map}
use Rattle.hourbook.specs.Balance.{Judged}
use Rattle.hourbook.specs.Coordinated.{coordinated_means}
use Rattle.hourbook.specs.LossRule.{losses_means}
use Rattle.hourbook.specs.Meaning.{Meaning}
use Rattle.hourbook.specs.Tables.{cents_of, tenths_of}
use Rattle.hourbook.specs.TablesRead.{Describes}
use Rattle.hourbook.specs.Settled.{credits_of, needed}
use Rattle.hourbook.specs.StatementAnswers.{text}
use Rattle.hourbook.specs.Worths.{income_of}
use Rattle.sharing.specs.Writes.{written}

-- want of memory is no refusal
abbrev pub failure_of : FileFault → Failure
failure_of file.Memory = Memory
failure_of f = Refused (Settlement (Region (File f)))

-- the hour and the region of the credits
abbrev pub hour_origin : ℕ → Ownership → Origin
hour_origin hour table = record { hour = hour; region = table.region.number }

-- the credits of the region stand at the front of memory, and all of them count
pub record Posted (m : Meaning) (table : Ownership) (hour used : ℕ) (before after : List Row) : Type 0 where
  pub counted : used ≡ needed (income_of m) table
  pub entries : after ≡ written before 0 (credits_of (hour_origin hour table) m table)

-- an owner's statement over the entries that count
abbrev pub page_of : ℕ → List Row → Owner → List ℕ
page_of used es owner = text owner.number used es

-- what the tables of a file of the coordinated method mean, losses included
abbrev pub hour_means : HourFile → Result (Unit {0}) Flaw → Meaning
hour_means f verdict = losses_means (vec_items f.losses.losses) (coordinated_means (cents_of (vec_items f.prices.list)) (tenths_of (vec_items f.network.positions)) (vec_items f.network.borders) verdict)

-- the words are the statements of the file's owners, over the credits of its region
pub record Stated (file : HourFile) (words : List ℕ) : Type 0 where
  pub verdict : Result (Unit {0}) Flaw
  pub judged : Judged (tenths_of (vec_items (file).network.positions)) (vec_items (file).network.borders) verdict
  pub used : ℕ
  pub before : List Row
  pub after : List Row
  pub posted : Posted (hour_means file verdict) (file).ownership (file).hour used before after
  pub stated : words ≡ flat_map (page_of used after) (vec_items (file).ownership.owners)

-- and the file is the one that the bytes describe
pub record DescribedAndStated (bytes words : List ℕ) : Type 0 where
  pub file : HourFile
  pub described : Describes bytes file
  pub stated : Stated file words
