use Rattle.std.proofs.Common.{◌≡◌, ◌*◌, ◌≤◌, length, drop, pos, All, unsigned_abs, sym, subst, arith, rules}
use Rattle.std.proofs.lemmas.Int.{ints, to_z-of_z, unsigned_abs-mul}
use Rattle.std.proofs.lemmas.Nat.{mul-le}
use Rattle.std.proofs.lemmas.Iterator.{YieldsList-from_map}
use Rattle.std.proofs.lemmas.Iterator.Adapters.{serves_from_places}
use Rattle.std.proofs.lemmas.Iterator.Consumers.{YieldsList-at, YieldsList-from_first}
use Rattle.std.proofs.lemmas.List.{length-map}
use Rattle.std.proofs.lemmas.List.Elements.{All-map, All-weaker}
use Rattle.hourbook.specs.Meaning.{Meaning, Bounded, ZoneBounded}
use Rattle.hourbook.specs.SignedSums.{sum_z}
use Rattle.hourbook.specs.Worths.{worths, worth}
use Rattle.hourbook.proofs.Adding.{added_bound, signed_fits, signed_sum}
use Rattle.hourbook.proofs.settlement.income.income.Given as given
use Rattle.hourbook.proofs.settlement.income.income.Goals as goal
use Rattle.hourbook.proofs.settlement.income.income.Goals.{After-sum-sum}

-- `yields` stands in each answer: its type names the bound of this function and the step at which the answer is given.

worths_small : (m : Meaning) → Bounded m → All (λ z. unsigned_abs z ≤ 500000000000) (worths m)
worths_small m h = All-map (λ z. unsigned_abs z ≤ 500000000000) worth m.zones (All-weaker ZoneBounded (λ z. unsigned_abs (worth z) ≤ 500000000000) (λ z k. rw (unsigned_abs-mul z.position z.price) (mul-le (unsigned_abs z.position) (unsigned_abs z.price) 1000000 500000 k.position k.price)) m.zones h.each_zone)

pub sum-sum-requires-clause-can : goal.sum-sum-requires-clause-can
sum-sum-requires-clause-can g c =
    let zones = (g.R.Region.meaning c.args.region.now).zones in
    let yields = YieldsList-at c.map.ensures.source (YieldsList-from_first (λ x. x) (λ s. drop s.next (g.R.Region.meaning s.region.now).zones) zones c.zones.ensures) in
    let bounded = (g.met.R.Region.bounded c.args.region.now).each_zone in
    (tt, serves_from_places yields (λ x q h. search rules) (λ x k h e. let fits : ZoneBounded x = subst ZoneBounded (sym e) (bounded k x h) in search rules))

pub sum-sum-requires-clause-fits : goal.sum-sum-requires-clause-fits
sum-sum-requires-clause-fits g c =
    let m = g.R.Region.meaning c.args.region.now in
    let bounded = g.met.R.Region.bounded c.args.region.now in
    let yields = YieldsList-from_map _ worth (YieldsList-at c.map.ensures.source (YieldsList-from_first (λ x. x) (λ s. drop s.next (g.R.Region.meaning s.region.now).zones) m.zones c.zones.ensures)) c.map.ensures.closure (λ x r q k. (search rules, grind (arith, ints, to_z-of_z, k))) in
    signed_fits c.map.result (worths m) yields 500000000000 16 (worths_small m bounded) (omega (arith, length-map m.zones worth, bounded.few_zones)) (omega arith)

-- the sum is that of the zones' worths, which is small
summed : (g : given.Over) (c : goal.After-sum-sum g) → (c.sum-sum.result ≡ sum_z (worths (g.R.Region.meaning c.args.region.now))) × (unsigned_abs c.sum-sum.result ≤ 16 * 500000000000)
summed g c =
    let m = g.R.Region.meaning c.args.region.now in
    let bounded = g.met.R.Region.bounded c.args.region.now in
    let yields = YieldsList-from_map _ worth (YieldsList-at c.map.ensures.source (YieldsList-from_first (λ x. x) (λ s. drop s.next (g.R.Region.meaning s.region.now).zones) m.zones c.zones.ensures)) c.map.ensures.closure (λ x r q k. (search rules, grind (arith, ints, to_z-of_z, k))) in
    let all = signed_sum c.map.result (worths m) yields c.sum-sum.result c.sum-sum.ensures.ran in
    let low = added_bound 500000000000 (pos 0) (worths m) (worths_small m bounded) in
    let few = mul-le (length (worths m)) 500000000000 16 500000000000 (omega (arith, length-map m.zones worth, bounded.few_zones)) (omega arith) in
    (all, rw all (omega (arith, low, few)))

pub overflow_sub-sum : goal.overflow_sub-sum
overflow_sub-sum g c = let s = summed g c in omega (arith, ints)

pub returns : goal.returns
returns g c =
    let s = summed g (goal.at.returns g c).After-sum-sum in
    grind (arith, ints, to_z-of_z)
