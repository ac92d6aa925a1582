use Rattle.std.proofs.Common.{◌≤◌, ℤ, pos, negsuc, ◌-ℤ◌, nat_abs, arith}
use Rattle.std.proofs.lemmas.Int.{ints}
use Rattle.std.proofs.lemmas.Nat.{mul-le}
use Rattle.hourbook.specs.Meaning.{Toward}
use Rattle.hourbook.proofs.region.rows.Line.weight.Goals as goal

toward_small : (z m : ℤ) → Toward z m → nat_abs m ≤ nat_abs z
toward_small (pos n) m h = omega (arith, ints, h.0, h.1)
toward_small (negsuc n) m h = omega (arith, ints, h.0, h.1)

pub returns-clause-bound : goal.returns-clause-bound
returns-clause-bound c =
    let l = c.args.self.now in
    let spread : nat_abs l.spread ≤ 1000000 = omega (arith, ints, toward_small (l.far_price -ℤ l.near_price) l.spread c.requires.spread, c.requires.near, c.requires.far) in
    let product = mul-le c.unsigned_abs.result c.from.result 2000000000000 1000000 (omega (arith, ints, c.requires.flow)) (omega (arith, ints)) in
    omega arith
