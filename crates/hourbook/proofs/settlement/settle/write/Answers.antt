use Rattle.std.proofs.Common.{◌≡◌, ◌-◌, ◌*◌, ◌<◌, ◌≤◌, ◌++◌, map, length, take, drop, pos, nat_abs, vec_items, ap, ◌∙◌, subst, arith, w64, SFits, to_z, of_z}
use Rattle.std.proofs.lemmas.List.{length-map}
use Rattle.std.proofs.lemmas.Int.{ints, to_z-of_z}
use Rattle.sharing.specs.Shares.{shares}
use Rattle.sharing.specs.Writes.{written}
use Rattle.sharing.proofs.Lawful.{adds, length-shares}
use Rattle.hourbook.specs.Worths.{weights, weight, income_of}
use Rattle.hourbook.specs.Settled.{credit, work_of, paid}
use Rattle.hourbook.proofs.Parts.{second, abs_all, credit_max, credit_small}
use Rattle.hourbook.proofs.settlement.settle.write.Given as given
use Rattle.hourbook.proofs.settlement.settle.write.Goals as goal
use Rattle.hourbook.proofs.settlement.settle.write.Goals.{After-fill_work}

module _ (g : given.Over) (c : goal.After-fill_work g) where
  fitted : to_z w64 (of_z w64 c.args.income) ≡ c.args.income
  fitted =
      let fits : SFits w64 c.args.income = omega (arith, ints, c.requires.accepted.small) in
      to_z-of_z w64 _ fits

  -- the sum that was judged is the region's income
  sum_is : to_z w64 (of_z w64 c.args.income) ≡ income_of (g.R.Region.meaning c.args.region.now)
  sum_is = fitted ∙ c.requires.accepted.is

  work_is : c.fill_work.new.work ≡ written c.args.work.now 0 (work_of (g.R.Region.meaning c.args.region.now))
  work_is =
      let ws = weights (g.R.Region.meaning c.args.region.now) in
      let z = to_z w64 (of_z w64 c.args.income) in
      let low : nat_abs z ≤ 2000000000 = rw fitted c.requires.accepted.small in
      let top : nat_abs c.max.result ≡ credit z = credit_max z c.max.result c.max.ensures.value in
      let fits : SFits w64 c.max.result = omega (arith, ints, credit_small z) in
      let same : c.amount_of.result.cents ≡ credit (income_of (g.R.Region.meaning c.args.region.now)) =
      c.amount_of.ensures ∙ (ap nat_abs (to_z-of_z w64 c.max.result fits) ∙ (top ∙ ap credit sum_is)) in
      c.fill_work.ensures ∙ ap (λ t. written c.args.work.now 0 (map pos (ws ++ shares t ws))) same

  -- the second half of work memory holds the lines' shares
  parts_are : take (2 * c.len-lines.result - c.len-lines.result) (drop c.len-lines.result c.fill_work.new.work) ≡ map pos (shares (credit (income_of (g.R.Region.meaning c.args.region.now))) (weights (g.R.Region.meaning c.args.region.now)))
  parts_are =
      let m = g.R.Region.meaning c.args.region.now in
      let ws = weights m in
      let n = c.len-lines.result in
      let t = credit (income_of m) in
      let l = length-map m.lines weight in
      let long : length ws ≡ n = omega (arith, l, c.requires.accepted.lines, c.len-lines.ensures, c.args.table.now.lines.ok.0) in
      ap (λ w. take (2 * n - n) (drop n w)) work_is ∙ second c.args.work.now ws (shares t ws) n long (length-shares t ws ∙ long)

pub pay-requires : goal.pay-requires
pay-requires g c =
    let m = g.R.Region.meaning c.args.region.now in
    let ws = weights m in
    let t = credit (income_of m) in
    let acc = c.requires.accepted in
    let l = length-map m.lines weight in
    let b = (goal.at.pay-requires g c).After-fill_work in
    let ss = shares t ws in
    let len = length-shares t ws in
    let lem = length-map ss pos in
    let some : 0 < length ws = omega (arith, acc.lines, c.args.table.now.some, c.args.table.now.lines.ok.0) in
    let all = adds t ws some in
    let low : nat_abs (income_of m) ≤ 2000000000 = subst (λ z. nat_abs z ≤ 2000000000) acc.is acc.small in
    rw (parts_are g b) (record {
      small = rw (sum_is g b) low;
      parts = rw (abs_all ss) (omega (arith, credit_small (income_of m)));
      long = omega (arith, acc.lines, c.args.table.now.lines.ok.0);
      room = rw (fitted g b) c.requires.room;
    })

pub returns : goal.returns
returns g c =
    let m = g.R.Region.meaning c.args.region.now in
    let b = (goal.at.returns g c).After-fill_work in
    let lines = vec_items c.args.table.now.lines in
    let owners = vec_items c.args.table.now.owners in
    let origin = c.args.origin in
    let t = credit (income_of m) in
    let parts : map nat_abs (take (2 * c.len-lines.result - c.len-lines.result) (drop c.len-lines.result c.fill_work.new.work)) ≡ shares t (weights m) = ap (map nat_abs) (parts_are g b) ∙ abs_all (shares t (weights m)) in
    record {
      work = work_is g b;
      out =
          c.pay.ensures
          ∙ (ap (λ ss. written c.args.out.now 0 (paid origin (to_z w64 (of_z w64 c.args.income)) ss lines owners)) parts
          ∙ ap (λ z. written c.args.out.now 0 (paid origin z (shares t (weights m)) lines owners)) (sum_is g b));
    }
