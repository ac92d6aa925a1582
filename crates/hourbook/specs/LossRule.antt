-- How losses narrow the spread of each line. Assumes nothing.
use Rattle.std.specs.Prelude.{ℕ, suc, ◌-◌, ◌*◌, ◌/◌, if◌then◌else◌, List, [], ◌∷◌, ℤ, pos, negsuc, neg_ℤ, int_lt, unsigned_abs}
use Rattle.hourbook.specs.declared.region.rows.Line.{Line}
use Rattle.hourbook.specs.Meaning.{Meaning}

-- z moved toward 0 by n, and no further
abbrev pub shrink : ℤ → ℕ → ℤ
shrink (pos a) n = pos (a - n)
shrink (negsuc a) n = neg_ℤ (pos (suc a - n))

-- the price at the end that the flow leaves; no flow leaves the near end
abbrev pub leaving_price : Line → ℤ
leaving_price l = if int_lt l.flow (pos 0) then l.far_price else l.near_price

-- what a loss of so many ten-thousandths takes of that price
abbrev pub drained : ℕ → Line → ℕ
drained loss l = loss * unsigned_abs (leaving_price l) / 10000

abbrev pub lossy : ℕ → Line → Line
lossy loss l = record {
  near = l.near;
  far = l.far;
  flow = l.flow;
  near_price = l.near_price;
  far_price = l.far_price;
  spread = shrink l.spread (drained loss l);
}

-- each line with its loss; a line past the end of the losses has none
abbrev pub lessen : List ℕ → List Line → List Line
lessen ps [] = []
lessen [] (x ∷ xs) = lossy 0 x ∷ lessen [] xs
lessen (p ∷ ps) (x ∷ xs) = lossy p x ∷ lessen ps xs

-- all else is as below
abbrev pub losses_means : List ℕ → Meaning → Meaning
losses_means ps m = record { verdict = m.verdict; zones = m.zones; lines = lessen ps m.lines; hub_price = m.hub_price }
