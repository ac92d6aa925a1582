-- When the calls of the book are refused: the first reason of each call's list that holds.
use Rattle.std.specs.Prelude.{ℕ, ◌+◌, min, if◌then◌else◌, List, length, take, ℤ, Ok, Err, Result, ◌==◌, nat_lt}
use Rattle.hourbook.specs.declared.book.fault.BookFault.{BookFault}
use Rattle.hourbook.specs.declared.book.fault.BookFault.TheVariants.{Settlement, Entries, Settled, Hour, Nothing, Owner, Full, Statement}
use Rattle.hourbook.specs.declared.entry.row.Row.{Row}
use Rattle.hourbook.specs.declared.hourfile.ownership.Ownership.{Ownership}
use Rattle.hourbook.specs.declared.settlement.fault.SettlementFault.{SettlementFault}
use Rattle.hourbook.specs.Settled.{and_then, needed}
use Rattle.hourbook.specs.SettledIn.{settled_in}
use Rattle.hourbook.specs.Standing.{standing}
use Rattle.hourbook.specs.StatementAnswers.{text}

-- 13, 15: with so many used entries, an hour that is 0 or stands is not opened
abbrev pub open_judged : ℕ → List Row → ℕ → Result (Unit {0}) BookFault
open_judged used es hour =
    if nat_lt (length es) used then Err Entries
    else if hour == 0 then Err Hour
    else if standing hour (take used es) then Err Hour
    else Ok tt

-- 13, 16: an opening in which nothing was settled is not posted
abbrev pub post_judged : ℕ → List Row → ℕ → Result (Unit {0}) BookFault
post_judged used es settled =
    if nat_lt (length es) used then Err Entries
    else if settled == 0 then Err Nothing
    else Ok tt

-- 13, 18, 21: a statement is for an owner 1 to 64, and finds its room
abbrev pub statement_judged : ℕ → List Row → ℕ → ℕ → Result ℕ BookFault
statement_judged used es owner room =
    if nat_lt (length es) used then Err Entries
    else if nat_lt owner 1 then Err Owner
    else if nat_lt 64 owner then Err Owner
    else if nat_lt room (length (text owner used es)) then Err Statement
    else Ok (length (text owner used es))

-- 8 to 12 from the settlement, then 13, 14, 20: free entries are counted up to a million places in all
abbrev pub settle_judged : Result ℤ SettlementFault → Ownership → ℕ → ℕ → ℕ → Result ℤ BookFault
settle_judged judged table used places mask = and_then Settlement judged (λ income.
    if nat_lt places used then Err Entries
    else if settled_in mask table.region.number then Err Settled
    else if nat_lt (min places 1000000) (used + needed income table) then Err Full
    else Ok income)
