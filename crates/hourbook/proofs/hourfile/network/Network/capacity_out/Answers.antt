use Rattle.std.proofs.Common.{ℕ, ◌≤◌, Bool, true, false, cond, map, get_or, ℤ, pos, ◌==◌, unsigned_abs, arith}
use Rattle.std.proofs.lemmas.Int.{ints, to_z-of_z}
use Rattle.std.proofs.lemmas.Iterator.{YieldsList-from_slice, YieldsList-from_map}
use Rattle.std.proofs.lemmas.Iterator.Consumers.{YieldsList-at}
use Rattle.std.proofs.lemmas.List.{length-map}
use Rattle.std.proofs.lemmas.List.Elements.{All-map}
use Rattle.hourbook.specs.declared.hourfile.border.Border.{Border}
use Rattle.hourbook.specs.Balance.{at_zone}
use Rattle.hourbook.proofs.Adding.{signed_fits, signed_sum}
use Rattle.hourbook.proofs.hourfile.network.Network.capacity_out.Goals as goal

either : (b : Bool) (z : ℤ) → unsigned_abs z ≤ 200000 → unsigned_abs (cond b z (pos 0)) ≤ 200000
either true z h = h
either false z h = omega arith

at_zone_small : (zone : ℕ) (b : Border) → unsigned_abs (at_zone zone b) ≤ 400000
at_zone_small zone b = omega (arith, ints, either (b.near == zone) b.capacity.value b.capacity.bounded, either (b.far == zone) b.capacity.value b.capacity.bounded)

pub sum-requires-clause-fits : goal.sum-requires-clause-fits
sum-requires-clause-fits c =
    let s = c.args.self.now in
    let borders = s.borders.items in
    let out = at_zone c.args.zone in
    let yields = YieldsList-from_map _ out (YieldsList-at c.map.ensures.source (YieldsList-from_slice borders cc)) c.map.ensures.closure (λ x r q k. (grind (arith, k), grind (arith, ints, to_z-of_z, k))) in
    let small = All-map (λ z. unsigned_abs z ≤ 400000) out borders (λ k b h. at_zone_small c.args.zone (get_or borders k b)) in
    signed_fits c.map.result (map out borders) yields 400000 48 small (omega (arith, length-map borders out, s.few_borders, s.borders.ok.0)) (omega arith)

pub returns : goal.returns
returns c =
    let borders = c.args.self.now.borders.items in
    let out = at_zone c.args.zone in
    let yields = YieldsList-from_map _ out (YieldsList-at c.map.ensures.source (YieldsList-from_slice borders cc)) c.map.ensures.closure (λ x r q k. (grind (arith, k), grind (arith, ints, to_z-of_z, k))) in
    let all = signed_sum c.map.result (map out borders) yields c.sum.result c.sum.ensures.ran in
    grind (arith, ints, to_z-of_z)
