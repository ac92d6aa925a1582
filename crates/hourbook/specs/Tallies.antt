-- How many records of each kind a file may have, and must have.
use Rattle.std.specs.Prelude.{◌≡◌, ◌+◌, ◌<◌, ◌≤◌, Some, Option}
use Rattle.hourbook.specs.declared.hourfile.method.Method.{Method}
use Rattle.hourbook.specs.declared.hourfile.method.Method.TheVariants.{Coordinated}
use Rattle.hourbook.specs.declared.hourfile.«record».Kind.{Kind}
use Rattle.hourbook.specs.declared.hourfile.«record».Kind.TheVariants.{Header, Zone, Border, Leg, Factor, Loss, Owner, End}
use Rattle.hourbook.specs.declared.hourfile.tally.Tally.{Tally}

abbrev pub none_yet : Tally
none_yet = record { zones = 0; borders = 0; legs = 0; owners = 0 }

-- one record more
abbrev pub added : Tally → Kind → Tally
added t Header = t
added t Zone = record { zones = t.zones + 1; borders = t.borders; legs = t.legs; owners = t.owners }
added t Border = record { zones = t.zones; borders = t.borders + 1; legs = t.legs; owners = t.owners }
added t Leg = record { zones = t.zones; borders = t.borders; legs = t.legs + 1; owners = t.owners }
added t Factor = t
added t Loss = t
added t Owner = record { zones = t.zones; borders = t.borders; legs = t.legs; owners = t.owners + 1 }
added t End = t

-- no kind has come too often
abbrev pub WithinLimits : Tally → Type 0
WithinLimits t = (t.zones ≤ 16) × (t.borders ≤ 48) × (t.legs ≤ 64) × (t.owners ≤ 128)

-- a file has a zone, and with coordinated capacities a border
abbrev pub Furnished : Tally → Option Method → Type 0
Furnished t method = (0 < t.zones) × (method ≡ Some Coordinated → 0 < t.borders)
