-- The kind of a record.
use Rattle.std.specs.Prelude.{Some, None, Option}
use Rattle.hourbook.specs.declared.hourfile.«record».Header as header
use Rattle.hourbook.specs.declared.hourfile.«record».Kind.{Kind}
use Rattle.hourbook.specs.declared.hourfile.«record».Kind.TheVariants as kind
use Rattle.hourbook.specs.declared.hourfile.«record».LegRecord.{LegRecord}
use Rattle.hourbook.specs.declared.hourfile.«record».OwnerRecord.{OwnerRecord}
use Rattle.hourbook.specs.declared.hourfile.«record».Record.{Record}
use Rattle.hourbook.specs.declared.hourfile.«record».Record.TheVariants.{Header, Zone, Border, Leg, Factor, Loss, Owner, End}

abbrev pub kind_of : Record → Kind
kind_of (Header x) = kind.Header
kind_of (Zone x) = kind.Zone
kind_of (Border x) = kind.Border
kind_of (Leg x) = kind.Leg
kind_of (Factor x) = kind.Factor
kind_of (Loss x) = kind.Loss
kind_of (Owner x) = kind.Owner
kind_of End = kind.End

abbrev pub header_in : Record → Option header.Header
header_in (Header x) = Some x
header_in _ = None

abbrev pub leg_in : Record → Option LegRecord
leg_in (Leg x) = Some x
leg_in _ = None

abbrev pub owner_in : Record → Option OwnerRecord
owner_in (Owner x) = Some x
owner_in _ = None
