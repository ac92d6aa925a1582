-- The line of a refusal.
use Rattle.std.specs.Prelude.{ℕ, List, ◌++◌, codes}
use Rattle.std.specs.Fmt.{decimal}
use Rattle.hourbook.specs.declared.notice.Notice.{Notice}

-- R number place
abbrev pub refusal_line : Notice → List ℕ
refusal_line n = codes "R " ++ (decimal n.number ++ (codes " " ++ decimal n.place))
