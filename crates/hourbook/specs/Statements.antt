-- The text of an owner's statement.
use Rattle.std.specs.Prelude.{ℕ, List, [], ◌∷◌, ◌++◌, ℤ, pos, ◌+ℤ◌, fold, filter, nat_eq}
use Rattle.std.specs.List.{flat_map}
use Rattle.hourbook.specs.Text.{line_of}
use Rattle.hourbook.specs.Amounts.{read_amount}
use Rattle.hourbook.specs.Rows.{letter_of}
use Rattle.hourbook.specs.declared.entry.row.Row.{Row}

-- hour, region, line, leg and amount
abbrev pub fields : Row → List ℤ
fields e = pos e.hour ∷ pos e.region ∷ pos e.line ∷ pos e.leg ∷ read_amount e.amount ∷ []

-- kind hour region line leg amount
abbrev pub entry_line : Row → List ℕ
entry_line e = line_of (letter_of e.kind) (fields e)

abbrev pub added : ℤ → Row → ℤ
added sum e = sum +ℤ read_amount e.amount

-- the sum of an owner's entries
abbrev pub balance_of : List Row → ℤ
balance_of es = fold added (pos 0) es

-- the owner's entries
abbrev pub own : ℕ → List Row → List Row
own owner es = filter (λ e. nat_eq e.owner owner) es

-- O owner
abbrev pub owner_line : ℕ → List ℕ
owner_line owner = line_of 79 (pos owner ∷ [])

-- B balance
abbrev pub balance_line : ℤ → List ℕ
balance_line balance = line_of 66 (balance ∷ [])

-- the owner, a line for each entry, the balance
abbrev pub text_of : ℕ → ℤ → List Row → List ℕ
text_of owner balance es = owner_line owner ++ (flat_map entry_line es ++ balance_line balance)

abbrev pub statement_of : ℕ → List Row → List ℕ
statement_of owner es = text_of owner (balance_of es) es
