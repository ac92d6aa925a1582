use Rattle.std.proofs.Common.{ℕ, ◌≡◌, ◌*◌, ◌<◌, ◌≤◌, get_or, length, take, nat_abs}
use Rattle.hourbook.specs.Statements.{entry_line, own, balance_of}
use Rattle.hourbook.proofs.Owns.{blank}
use Rattle.hourbook.proofs.book.statement.balance.Given as goal

abbrev pub invariant-loop-row : goal.invariant-loop-row
invariant-loop-row l =
    record {
      sum : l.sum ≡ balance_of (own l.owner (take l.row-index l.entries));
      bound : nat_abs l.sum ≤ 2000000000 * l.row-index;
      short : (k : ℕ) → k < l.row-index → length (entry_line (get_or l.entries k blank)) ≤ 37;
    }
