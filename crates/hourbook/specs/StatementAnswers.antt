-- What a statement is answered with.
use Rattle.std.specs.Prelude.{ℕ, List, ◌++◌, length, take, drop}
use Rattle.hourbook.specs.declared.entry.row.Row.{Row}
use Rattle.hourbook.specs.Statements.{own, statement_of}

-- the text of an owner's statement over the entries that count
abbrev pub text : ℕ → ℕ → List Row → List ℕ
text owner counted es = statement_of owner (own owner (take counted es))

-- the text, and then what stood there
abbrev pub over : List ℕ → List ℕ → List ℕ
over bs old = bs ++ drop (length bs) old
