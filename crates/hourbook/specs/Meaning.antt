-- What a region means, and the limits that every region keeps.
use Rattle.std.specs.Prelude.{◌≤◌, List, length, ℤ, pos, negsuc, ◌-ℤ◌, ◌≤ℤ◌, Option, Result, All, unsigned_abs}
use Rattle.hourbook.specs.declared.region.rows.Zone.{Zone}
use Rattle.hourbook.specs.declared.region.rows.Line.{Line}
use Rattle.hourbook.specs.declared.region.fault.Flaw.{Flaw}

pub record Meaning : Type 0 where
  pub verdict : Result (Unit {0}) Flaw
  pub zones : List Zone
  pub lines : List Line
  pub hub_price : Option ℤ

-- m lies between z and 0
abbrev pub Toward : ℤ → ℤ → Type 0
Toward (pos n) m = (pos 0 ≤ℤ m) × (m ≤ℤ pos n)
Toward (negsuc n) m = (negsuc n ≤ℤ m) × (m ≤ℤ pos 0)

pub record ZoneBounded (z : Zone) : Type 0 where
  pub price : unsigned_abs z.price ≤ 500000
  pub position : unsigned_abs z.position ≤ 1000000

-- the spread is the difference of the two prices, whole or moved toward 0
pub record LineBounded (l : Line) : Type 0 where
  pub near : unsigned_abs l.near_price ≤ 500000
  pub far : unsigned_abs l.far_price ≤ 500000
  pub spread : Toward (l.far_price -ℤ l.near_price) l.spread
  pub flow : unsigned_abs l.flow ≤ 2000000000000

pub record Bounded (m : Meaning) : Type 0 where
  pub few_zones : length m.zones ≤ 16
  pub few_lines : length m.lines ≤ 64
  pub each_zone : All ZoneBounded m.zones
  pub each_line : All LineBounded m.lines
