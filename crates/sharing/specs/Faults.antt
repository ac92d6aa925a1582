-- The number of each fault of a sharing.
use Rattle.std.specs.Prelude.{ℕ}
use Rattle.sharing.specs.declared.fault.SharingFault.{SharingFault}
use Rattle.sharing.specs.declared.fault.SharingFault.TheVariants.{Room, Limit}

abbrev pub number_of : SharingFault → ℕ
number_of Room = 11
number_of Limit = 12
