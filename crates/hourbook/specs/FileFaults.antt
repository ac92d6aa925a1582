-- The notice of each fault of an hour file.
use Rattle.std.specs.Prelude.{ℕ}
use Rattle.hourbook.specs.declared.notice.Notice.{Notice}
use Rattle.hourbook.specs.declared.hourfile.fault.FileFault.{FileFault}
use Rattle.hourbook.specs.declared.hourfile.fault.FileFault.TheVariants.{Memory, Unread, Order, Count, Range, Name, Contribution, Keys}

-- The file is the first layer. The place is the record at fault counted from 1, the line or the leg, and 0 where there
-- is none. Number 0, outside the office's numbers, is want of memory.
abbrev pub notice_of : FileFault → Notice
notice_of Memory = record { number = 0; layer = 1; place = 0 }
notice_of (Unread p) = record { number = 1; layer = 1; place = p }
notice_of (Order p) = record { number = 2; layer = 1; place = p }
notice_of (Count p) = record { number = 3; layer = 1; place = p }
notice_of (Range p) = record { number = 4; layer = 1; place = p }
notice_of (Name p) = record { number = 5; layer = 1; place = p }
notice_of (Contribution l) = record { number = 6; layer = 1; place = l }
notice_of (Keys l) = record { number = 7; layer = 1; place = l }

abbrev pub number_of : FileFault → ℕ
number_of f = (notice_of f).number

abbrev pub place_of : FileFault → ℕ
place_of f = (notice_of f).place
