-- Lines as rows to share over.
use Rattle.std.specs.Prelude.{ℕ, List, map}
use Rattle.std.specs.List.{enumerate_from}
use Rattle.hourbook.specs.declared.settlement.line_row.LineRow.{LineRow}

-- the lines with these weights, numbered from n
abbrev pub line_rows_from : ℕ → List ℕ → List LineRow
line_rows_from n ws = map (λ (p : ℕ × ℕ). record { number = p.0; weight = p.1 }) (enumerate_from n ws)
