-- What a place of entry memory is read as.
use Rattle.std.specs.Prelude.{◌≡◌}
use Rattle.hourbook.specs.Amounts.{read_amount}
use Rattle.hourbook.specs.declared.entry.entry.Entry.{Entry}
use Rattle.hourbook.specs.declared.entry.row.Row.{Row}

-- the amount out of range is read as 0, and the other fields as they are
pub record IsReadAs (row : Row) (e : Entry) : Type 0 where
  pub kind : e.kind ≡ row.kind
  pub hour : e.hour ≡ row.hour
  pub region : e.region ≡ row.region
  pub line : e.line ≡ row.line
  pub leg : e.leg ≡ row.leg
  pub owner : e.owner ≡ row.owner
  pub amount : e.amount.value ≡ read_amount row.amount
