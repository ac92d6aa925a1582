-- The order of the records.
use Rattle.std.specs.Prelude.{Bool, is_some, Some, None, Option}
use Rattle.std.specs.Option.{unwrap_or}
use Rattle.hourbook.specs.declared.hourfile.order.Phase.{Phase}
use Rattle.hourbook.specs.declared.hourfile.order.Phase.TheVariants.{Start, Zones, Borders, Legs, Factors, Losses, Owners, Done}
use Rattle.hourbook.specs.declared.hourfile.«record».Kind.{Kind}
use Rattle.hourbook.specs.declared.hourfile.«record».Kind.TheVariants.{Header, Zone, Border, Leg, Factor, Loss, Owner, End}

-- where each kind leads: the header once, then each kind or a later one, and nothing after the end
abbrev pub next : Phase → Kind → Option Phase
next Start Header = Some Zones
next Start _ = None
next Zones Zone = Some Zones
next Zones Border = Some Borders
next Zones Leg = Some Legs
next Zones Factor = Some Factors
next Zones Loss = Some Losses
next Zones Owner = Some Owners
next Zones End = Some Done
next Zones _ = None
next Borders Border = Some Borders
next Borders Leg = Some Legs
next Borders Factor = Some Factors
next Borders Loss = Some Losses
next Borders Owner = Some Owners
next Borders End = Some Done
next Borders _ = None
next Legs Leg = Some Legs
next Legs Factor = Some Factors
next Legs Loss = Some Losses
next Legs Owner = Some Owners
next Legs End = Some Done
next Legs _ = None
next Factors Factor = Some Factors
next Factors Loss = Some Losses
next Factors Owner = Some Owners
next Factors End = Some Done
next Factors _ = None
next Losses Loss = Some Losses
next Losses Owner = Some Owners
next Losses End = Some Done
next Losses _ = None
next Owners Owner = Some Owners
next Owners End = Some Done
next Owners _ = None
next Done _ = None

abbrev pub may_stand : Phase → Kind → Bool
may_stand p k = is_some (next p k)

abbrev pub phase_after : Phase → Kind → Phase
phase_after p k = unwrap_or (next p k) p
