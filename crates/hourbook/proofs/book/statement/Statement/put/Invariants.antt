use Rattle.std.proofs.Common.{◌++◌, drop}
use Rattle.std.specs.List.{flat_map}
use Rattle.hourbook.specs.Statements.{entry_line, balance_line, balance_of, own}
use Rattle.hourbook.proofs.Sinking.{Underway}
use Rattle.hourbook.proofs.book.statement.Statement.put.Given as goal

abbrev pub invariant-loop-row : goal.invariant-loop-row
invariant-loop-row g l =
    let s = l.self-inside in
    Underway g.S.Sink.has_room g.S.Sink.took l.fn.sink l.sink l.self
    (flat_map entry_line (own s.owner (drop l.row-index s.entries.now)) ++ balance_line (balance_of (own s.owner s.entries.now)))
