use Rattle.std.proofs.Common.{◌≤◌, get_or, arith, rules, tests, unsigned_abs}
use Rattle.std.proofs.lemmas.Int.{ints, to_z-of_z}
use Rattle.std.proofs.lemmas.Iterator.{YieldsList-from_slice, YieldsList-from_map}
use Rattle.std.proofs.lemmas.Iterator.Consumers.{YieldsList-at}
use Rattle.std.proofs.lemmas.List.{length-map}
use Rattle.std.proofs.lemmas.List.Elements.{All-map}
use Rattle.hourbook.specs.Tables.{tenths_of}
use Rattle.hourbook.proofs.Adding.{signed_fits, signed_sum}
use Rattle.hourbook.proofs.hourfile.network.Network.position_sum.Goals as goal

pub sum-requires-clause-fits : goal.sum-requires-clause-fits
sum-requires-clause-fits c =
    let s = c.args.self.now in
    let positions = s.positions.items in
    let yields = YieldsList-from_map _ (λ p. p.value) (YieldsList-at c.map.ensures.source (YieldsList-from_slice positions cc)) c.map.ensures.closure (λ x r q k. (search (rules, tests), grind (arith, ints, to_z-of_z, k))) in
    let small = All-map (λ z. unsigned_abs z ≤ 1000000) (λ p. p.value) positions (λ k p h. (get_or positions k p).bounded) in
    signed_fits c.map.result (tenths_of positions) yields 1000000 16 small (omega (arith, length-map positions (λ p. p.value), s.few_zones, s.positions.ok.0)) (omega arith)

pub returns : goal.returns
returns c =
    let positions = c.args.self.now.positions.items in
    let yields = YieldsList-from_map _ (λ p. p.value) (YieldsList-at c.map.ensures.source (YieldsList-from_slice positions cc)) c.map.ensures.closure (λ x r q k. (search (rules, tests), grind (arith, ints, to_z-of_z, k))) in
    let all = signed_sum c.map.result (tenths_of positions) yields c.sum.result c.sum.ensures.ran in
    grind (arith, ints, to_z-of_z)
