-- The notice of each fault of the book.
use Rattle.hourbook.specs.SettlementFaults as settlement
use Rattle.hourbook.specs.declared.notice.Notice.{Notice}
use Rattle.hourbook.specs.declared.book.fault.BookFault.{BookFault}
use Rattle.hourbook.specs.declared.book.fault.BookFault.TheVariants.{Settlement, Entries, Settled, Hour, Nothing, Owner, Full, Statement}

-- the book is the fourth layer
abbrev pub notice_of : BookFault → Notice
notice_of (Settlement f) = settlement.notice_of f
notice_of Entries = record { number = 13; layer = 4; place = 0 }
notice_of Settled = record { number = 14; layer = 4; place = 0 }
notice_of Hour = record { number = 15; layer = 4; place = 0 }
notice_of Nothing = record { number = 16; layer = 4; place = 0 }
notice_of Owner = record { number = 18; layer = 4; place = 0 }
notice_of Full = record { number = 20; layer = 4; place = 0 }
notice_of Statement = record { number = 21; layer = 4; place = 0 }
