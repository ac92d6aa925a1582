-- A region's income, and the weights of its lines.
use Rattle.std.specs.Prelude.{ℕ, ◌+◌, ◌/◌, List, map, ℤ, pos, ◌*ℤ◌, neg_ℤ, unsigned_abs}
use Rattle.std.specs.Int.{int_div_euclid}
use Rattle.hourbook.specs.declared.region.rows.Zone.{Zone}
use Rattle.hourbook.specs.declared.region.rows.Line.{Line}
use Rattle.hourbook.specs.Meaning.{Meaning}
use Rattle.hourbook.specs.SignedSums.{sum_z}

-- what a zone's net position is worth, in tenths of a cent
abbrev pub worth : Zone → ℤ
worth z = z.position *ℤ z.price

abbrev pub worths : Meaning → List ℤ
worths m = map worth m.zones

-- minus the sum of net position × price, in tenths of a cent
abbrev pub exact_income : Meaning → ℤ
exact_income m = neg_ℤ (sum_z (worths m))

-- the income in cents, rounded toward minus infinity
abbrev pub income_of : Meaning → ℤ
income_of m = int_div_euclid (exact_income m) (pos 10)

-- |flow × spread| in hundred-thousandths, rounded up
abbrev pub weight : Line → ℕ
weight l = (unsigned_abs (l.flow *ℤ l.spread) + 99999) / 100000

abbrev pub weights : Meaning → List ℕ
weights m = map weight m.lines
