use Rattle.std.proofs.Common.{drop, sym, subst, arith, rules, tests}
use Rattle.std.proofs.lemmas.Iterator.{YieldsList-from_map}
use Rattle.std.proofs.lemmas.Iterator.Adapters.{serves_from_places, fits_from_length, at_most_from_yields_List}
use Rattle.std.proofs.lemmas.Iterator.Consumers.{YieldsList-at, YieldsList-from_first, sum_from_yields_List}
use Rattle.hourbook.specs.Meaning.{LineBounded}
use Rattle.hourbook.specs.Worths.{weight}
use Rattle.hourbook.proofs.settlement.weights.weigh_all.Goals as goal

-- `yields` stands in each answer: its type names the bound of this function and the step at which the answer is given.

pub sum-requires-clause-can : goal.sum-requires-clause-can
sum-requires-clause-can g c =
    let lines = (g.R.Region.meaning c.args.region.now).lines in
    let yields = YieldsList-at c.map.ensures.source (YieldsList-from_first (λ x. x) (λ s. drop s.next (g.R.Region.meaning s.region.now).lines) lines c.lines.ensures) in
    let bounded = (g.met.R.Region.bounded c.args.region.now).each_line in
    (tt, serves_from_places yields (λ x q h. search rules) (λ x k h e. let fits : LineBounded x = subst LineBounded (sym e) (bounded k x h) in search rules))

pub sum-requires-clause-fits : goal.sum-requires-clause-fits
sum-requires-clause-fits g c =
    let lines = (g.R.Region.meaning c.args.region.now).lines in
    let few = (g.met.R.Region.bounded c.args.region.now).few_lines in
    let yields = YieldsList-at c.map.ensures.source (YieldsList-from_first (λ x. x) (λ s. drop s.next (g.R.Region.meaning s.region.now).lines) lines c.lines.ensures) in
    fits_from_length _ _ 64 _ (at_most_from_yields_List yields few) c.map.ensures.closure (omega arith) (λ x r q k. search (rules, tests))

pub returns : goal.returns
returns g c =
    let lines = (g.R.Region.meaning c.args.region.now).lines in
    let yields = YieldsList-at c.map.ensures.source (YieldsList-from_first (λ x. x) (λ s. drop s.next (g.R.Region.meaning s.region.now).lines) lines c.lines.ensures) in
    sum_from_yields_List c.map.result _ c.sum.ensures.ran (YieldsList-from_map _ weight yields c.map.ensures.closure (λ x r q k. search rules))
