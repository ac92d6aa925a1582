-- The notice of each fault of a region.
use Rattle.hourbook.specs.FileFaults as file
use Rattle.hourbook.specs.declared.notice.Notice.{Notice}
use Rattle.hourbook.specs.declared.region.fault.Flaw.TheVariants.{Imbalance, Excess}
use Rattle.hourbook.specs.declared.region.fault.RegionFault.{RegionFault}
use Rattle.hourbook.specs.declared.region.fault.RegionFault.TheVariants.{File, Unsound}

-- the region is the second layer
abbrev pub notice_of : RegionFault → Notice
notice_of (File f) = file.notice_of f
notice_of (Unsound Imbalance) = record { number = 8; layer = 2; place = 0 }
notice_of (Unsound Excess) = record { number = 9; layer = 2; place = 0 }
