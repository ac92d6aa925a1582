use Rattle.std.proofs.Common.{◌≡◌, ℕ, ◌+◌, ◌<◌, ◌≤◌, [], ◌∷◌, ◌++◌, map, length, get_or, take, drop, pos, sym, ap, ◌∙◌, subst, arith, w64, to_z}
use Rattle.std.proofs.lemmas.Int.{to_z_pos}
use Rattle.std.proofs.lemmas.Iterator.Consumers.{YieldsList-at, YieldsList-from_first, YieldsList-from_enumerate, YieldsList-turn, YieldsList-end}
use Rattle.std.proofs.lemmas.List.{at_drop_all, length-map, length_push, length-take-le, take_all, take_more, get_or-map}
use Rattle.std.proofs.lemmas.List.FromFn.{length-enumerate_from, get_or-enumerate_from}
use Rattle.sharing.specs.Writes.{written}
use Rattle.sharing.proofs.Writing.{written_none}
use Rattle.hourbook.specs.declared.region.rows.Line.{Line}
use Rattle.hourbook.specs.declared.settlement.line_row.LineRow.{LineRow}
use Rattle.hourbook.specs.Meaning.{LineBounded}
use Rattle.hourbook.specs.Worths.{weights, weight}
use Rattle.hourbook.specs.LineRows.{line_rows_from}
use Rattle.hourbook.proofs.LineRowed.{length_rows, row_at, fill_next}
use Rattle.hourbook.proofs.settlement.weights.write_weights.Given as given
use Rattle.hourbook.proofs.settlement.weights.write_weights.Goals as goal
use Rattle.hourbook.proofs.settlement.weights.write_weights.Goals.{In-Some}

-- `yields` stands in each answer: its type names the bound of this function and the step at which the answer is given.

-- the item of a turn is the line at the number of the turn, beside that number
turn : (g : given.Over) (c : goal.In-Some g) → (length c.loop-k.yielded < length (g.R.Region.meaning c.args.region.now).lines) × (◌≡◌ {A = ℕ × Line} (c.in-Some.k, c.in-Some.line) (length c.loop-k.yielded, get_or (g.R.Region.meaning c.args.region.now).lines (length c.loop-k.yielded) c.in-Some.line))
turn g c =
    let lines = (g.R.Region.meaning c.args.region.now).lines in
    let n = length c.loop-k.yielded in
    let item : ℕ × Line = (c.in-Some.k, c.in-Some.line) in
    let yields = YieldsList-at c.into_iter-k-iterator.ensures.into_iter_gives (YieldsList-from_enumerate (YieldsList-at c.enumerate-k-items.ensures.source (YieldsList-from_first (λ x. x) (λ s. drop s.next (g.R.Region.meaning s.region.now).lines) lines c.lines.ensures)) c.enumerate-k-items.ensures.count) in
    let at = YieldsList-turn yields c.loop-k.yielded c.loop-k.k-iterator c.loop-k.yielded_by c.next.result c.next.new.self item c.in-Some.is c.next.ensures.steps in
    let h : n < length lines = omega (arith, length-enumerate_from 0 lines, at.0) in
    (h, at.1 ∙ (get_or-enumerate_from 0 lines n item h ∙ ap (λ i. (i, get_or lines n c.in-Some.line)) (omega arith)))

pub weight-weight-requires : goal.weight-weight-requires
weight-weight-requires g c =
    let t = turn g (goal.at.weight-weight-requires g c).In-Some in
    subst LineBounded (sym (ap (λ p. p.1) t.1)) ((g.met.R.Region.bounded c.args.region.now).each_line (length c.loop-k.yielded) c.in-Some.line t.0)

pub overflow_cast-k : goal.overflow_cast-k
overflow_cast-k g c =
    let t = turn g (goal.at.overflow_cast-k g c).In-Some in
    omega (arith, ap (λ p. p.0) t.1, t.0, (g.met.R.Region.bounded c.args.region.now).few_lines)

pub push-requires : goal.push-requires
push-requires g c =
    let t = turn g (goal.at.push-requires g c).In-Some in
    let ws = weights (g.R.Region.meaning c.args.region.now) in
    let n = length c.loop-k.yielded in
    let count = length_rows 1 ws in
    let long = length-map (g.R.Region.meaning c.args.region.now).lines weight in
    omega (arith, t.0, ap length c.loop-k.invariant.0, length-take-le n (line_rows_from 1 ws) (omega (arith, t.0)), (g.met.R.Region.bounded c.args.region.now).few_lines)

pub loop-k-preserved : goal.loop-k-preserved
loop-k-preserved g c =
    let t = turn g (goal.at.loop-k-preserved g c).In-Some in
    let lines = (g.R.Region.meaning c.args.region.now).lines in
    let ws = weights (g.R.Region.meaning c.args.region.now) in
    let n = length c.loop-k.yielded in
    let k = c.in-Some.k in
    let w = c.weight-weight.result in
    let here : k ≡ n = ap (λ p. p.0) t.1 in
    let weighs : w ≡ get_or ws n 0 = c.weight-weight.ensures.value ∙ (ap (λ p. weight p.1) t.1 ∙ sym (get_or-map weight lines n c.in-Some.line 0 t.0)) in
    let long : n < length ws = omega (arith, length-map lines weight, t.0) in
    let rows = length_rows 1 ws in
    let places = length-map ws pos in
    let row : LineRow = record { number = k + 1; weight = w } in
    let number : k + 1 ≡ 1 + n = omega arith in
    let row_is : row ≡ get_or (line_rows_from 1 ws) n row =
    ap (λ i. record { number = i; weight = w }) number ∙ (ap (λ x. record { number = 1 + n; weight = x }) weighs ∙ sym (row_at 1 ws n row long)) in
    let value : to_z w64 w ≡ get_or (map pos ws) n (pos 0) =
    to_z_pos w64 w (omega (arith, c.weight-weight.ensures.bound)) ∙ (ap pos weighs ∙ sym (get_or-map pos ws n 0 (pos 0) long)) in
    rw (length_push c.loop-k.yielded (k, c.in-Some.line)) (
      c.push.ensures.items ∙ (ap (λ l. l ++ (row ∷ [])) c.loop-k.invariant.0 ∙ (ap (λ r. take n (line_rows_from 1 ws) ++ (r ∷ [])) row_is ∙ sym (take_more (line_rows_from 1 ws) n row (omega arith)))),
      fill_next (map pos ws) c.loop-k.work n k (to_z w64 w) (pos 0) here (omega arith) (omega arith) value ∙ c.loop-k.invariant.1,
    )

pub returns : goal.returns
returns g c =
    let m = g.R.Region.meaning c.args.region.now in
    let ws = weights m in
    let yields = YieldsList-at c.into_iter-k-iterator.ensures.into_iter_gives (YieldsList-from_enumerate (YieldsList-at c.enumerate-k-items.ensures.source (YieldsList-from_first (λ x. x) (λ s. drop s.next (g.R.Region.meaning s.region.now).lines) m.lines c.lines.ensures)) c.enumerate-k-items.ensures.count) in
    let end = YieldsList-end yields c.loop-k.yielded c.loop-k.k-iterator c.loop-k.yielded_by c.next.result c.next.new.self c.in-None.is c.next.ensures.steps in
    let n = length c.loop-k.yielded in
    let all : length ws ≤ n = omega (arith, length-map m.lines weight, length-enumerate_from 0 m.lines, end.1) in
    let rows : length (line_rows_from 1 ws) ≤ n = omega (arith, length_rows 1 ws) in
    let places : length (map pos ws) ≤ n = omega (arith, length-map ws pos) in
    record {
      rows = c.loop-k.invariant.0 ∙ take_all n (line_rows_from 1 ws) rows;
      work = sym (written_none c.loop-k.work n) ∙ (sym (at_drop_all (written c.loop-k.work n) (map pos ws) n places) ∙ c.loop-k.invariant.1);
    }
