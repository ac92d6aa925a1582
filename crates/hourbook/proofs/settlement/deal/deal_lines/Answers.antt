use Rattle.std.proofs.Common.{◌≡◌, ◌∷◌, map, nat_abs, inl, inr, sym, ap, ◌∙◌, rules}
use Rattle.std.specs.Iterator.Adapters.{zip_second}
use Rattle.std.specs.Slice.Iter.{iter_rest}
use Rattle.std.proofs.lemmas.Slice.Zip.{either_empty_from_Zip}
use Rattle.hourbook.proofs.Dealing.{dealing_next, dealing_end}
use Rattle.hourbook.proofs.settlement.deal.deal_lines.Goals as goal

pub loop-line-preserved : goal.loop-line-preserved
loop-line-preserved c =
    let left = c.in-Some.ensures.steps in
    let same : c.amount_of.result.cents ≡ nat_abs c.in-Some.amount.now = search rules in
    let said = c.deal_line-count.ensures in
    dealing_next c.amount_of.result.cents c.loop-line.invariant left.0 (ap (map nat_abs) left.1 ∙ ap (λ t. t ∷ map nat_abs (iter_rest (zip_second c.next.new.self))) (sym same)) c.deal_line-count.result c.deal_line-count.new.out said.count said.memory

pub returns : goal.returns
returns c =
    let none = either_empty_from_Zip c.loop-line.line-iterator c.next.new.self c.next.result c.in-None.is c.next.ensures.steps in
    let end = dealing_end _ _ c.loop-line.invariant (elim none [ inl e ↦ inl e | inr e ↦ inr (ap (map nat_abs) e) ]) in
    record { memory = end.0; count = end.1 }
