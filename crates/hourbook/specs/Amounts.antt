-- The amount that an entry has.
use Rattle.std.specs.Prelude.{if◌then◌else◌, ℤ, pos, negsuc, int_lt}

-- one outside ±2,000,000,000 reads as 0
abbrev pub read_amount : ℤ → ℤ
read_amount z = if int_lt z (negsuc 1999999999) then pos 0 else if int_lt (pos 2000000000) z then pos 0 else z
