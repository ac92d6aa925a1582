use Rattle.std.proofs.Common.{◌≡◌, ◌+◌, ◌<◌, ◌≤◌, map, length, get_or, sym, ◌∙◌, arith}
use Rattle.std.proofs.lemmas.List.{length-map}
use Rattle.sharing.specs.Shares.{counted}
use Rattle.sharing.specs.Counts.{all_count}
use Rattle.sharing.proofs.Counted.{counted_at, counted_positive, length-counted}
use Rattle.sharing.proofs.Lawful.{fair}
use Rattle.sharing.proofs.Turn.{underway_start, positive, run_fits, underway_next, underway_end}
use Rattle.sharing.proofs.sharing.spread.Given as given
use Rattle.sharing.proofs.sharing.spread.Goals as goal
use Rattle.sharing.proofs.sharing.spread.Goals.{After-weight}

pub loop-i-init : goal.loop-i-init
loop-i-init g c =
    let ws = map g.R.Weighted.weighs c.args.rows.now in
    let rows = length-counted ws ∙ length-map c.args.rows.now g.R.Weighted.weighs in
    underway_start _ _ _ _ _ _ _ c.requires.counts.all (λ h. rw c.requires.counts.all (counted_positive ws (rw length-counted at h))) (sym rows) (rw (length-counted, length-map) c.requires.room)

module _ (g : given.Over) (c : goal.After-weight g) where
  inside : c.loop-i.i < length (counted (map g.R.Weighted.weighs c.args.rows.now))
  inside = rw (length-counted, length-map) c.loop-i-test.true

  -- what the row at hand counts with
  weight_is : c.weight.result ≡ get_or (counted (map g.R.Weighted.weighs c.args.rows.now)) c.loop-i.i 0
  weight_is =
      c.weight.ensures
      ∙ (c.requires.counts.each (g.R.Weighted.weighs c.index-rows-i.result)
      ∙ sym (counted_at g.R.Weighted.weighs c.args.rows.now c.loop-i.i _ c.loop-i-test.true c.index-rows-i.is))

  fits : c.loop-i.run + c.weight.result ≤ all_count c.args.counting
  fits = run_fits _ _ _ _ _ _ _ _ _ _ _ c.loop-i.invariant inside weight_is

pub overflow_add-next : goal.overflow_add-next
overflow_add-next g c = omega (arith, fits g c, c.requires.counts.light)

pub part-requires : goal.part-requires
part-requires g c =
    let b = (goal.at.part-requires g c).After-weight in
    record {
      some = omega (arith, c.sum.ensures, positive _ _ _ _ _ _ _ _ _ _ _ c.loop-i.invariant (inside g b) (weight_is g b));
      rises = omega arith;
      within = omega (arith, c.sum.ensures, fits g b);
      light = omega (arith, c.sum.ensures, c.requires.counts.light);
    }

pub loop-i-preserved : goal.loop-i-preserved
loop-i-preserved g c =
    let b = (goal.at.loop-i-preserved g c).After-weight in
    rw (c.keep.ensures, c.part.ensures, c.sum.ensures) (underway_next _ _ _ _ _ _ _ _ _ _ _ c.loop-i.invariant (inside g b) (weight_is g b) _ c.index-rows-i.is)

pub returns : goal.returns
returns g c = record {
  memory = underway_end _ _ _ _ _ _ _ _ _ _ c.loop-i.invariant (rw (length-counted, length-map) c.loop-i-test.false);
  fair = fair c.args.amount.cents (map g.R.Weighted.weighs c.args.rows.now);
}
