-- The notice of each fault of a settlement.
use Rattle.hourbook.specs.RegionFaults as region
use Rattle.hourbook.specs.declared.notice.Notice.{Notice}
use Rattle.hourbook.specs.declared.settlement.fault.SettlementFault.{SettlementFault}
use Rattle.hourbook.specs.declared.settlement.fault.SettlementFault.TheVariants.{Region, Lines, Work, Limit}

-- the settlement is the third layer
abbrev pub notice_of : SettlementFault → Notice
notice_of (Region f) = region.notice_of f
notice_of Lines = record { number = 10; layer = 3; place = 0 }
notice_of Work = record { number = 11; layer = 3; place = 0 }
notice_of Limit = record { number = 12; layer = 3; place = 0 }
