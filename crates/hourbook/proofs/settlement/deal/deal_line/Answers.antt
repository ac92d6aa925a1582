use Rattle.std.proofs.Common.{◌≡◌, ℕ, ◌∷◌, List, ℤ, pos, length, map, replicate, take, nat_abs, vec_items, sym, refl, ap, ◌∙◌, arith, rules, w64, to_z, of_z}
use Rattle.std.specs.Iterator.Adapters.{zip_first, zip_second}
use Rattle.std.specs.Slice.Iter.{iter_rest}
use Rattle.std.proofs.lemmas.Int.{ints, to_z-of_z}
use Rattle.std.proofs.lemmas.List.{length-map, take_at}
use Rattle.sharing.specs.Shares.{shares}
use Rattle.sharing.specs.Writes.{written}
use Rattle.sharing.proofs.Lawful.{adds, length-shares}
use Rattle.sharing.proofs.Cells.{cells_plain}
use Rattle.hourbook.specs.declared.hourfile.owned_leg.OwnedLeg.{OwnedLeg}
use Rattle.hourbook.specs.Deals.{leg_deal}
use Rattle.hourbook.specs.Legs.{contributions}
use Rattle.hourbook.proofs.Dealing.{some_rows, dealing_start, dealing_small, dealing_next}
use Rattle.hourbook.proofs.Parts.{abs_all}
use Rattle.hourbook.proofs.settlement.deal.deal_line.Goals as goal

-- what of the parts is read for these legs
parts_of : List OwnedLeg → List ℤ → List ℕ
parts_of legs parts = map nat_abs (take (length legs) parts)

pub loop-leg-init : goal.loop-leg-init
unfolding parts_of
loop-leg-init c =
    let line = c.args.line.now in
    let legs = vec_items line.legs in
    let ss = shares c.args.amount.cents (contributions legs) in
    let left = c.into_iter-leg-iterator.result in
    let n = length-map legs (λ r. r.contribution) in
    let m = length-shares c.args.amount.cents (contributions legs) in
    let s = some_rows (contributions legs) line.some in
    let a = adds c.args.amount.cents (contributions legs) s in
    let e = c.deref.ensures.value in
    let memory : c.share_amount.new.out ≡ written (replicate 64 (pos 0)) 0 (map pos ss) =
    rw e at c.share_amount.ensures ∙ ap (written (replicate 64 (pos 0)) 0) (cells_plain legs ss (omega arith)) in
    let first : iter_rest (zip_first left) ≡ legs = search rules in
    let second : iter_rest (zip_second left) ≡ c.share_amount.new.out = search rules in
    let long : length (map pos ss) ≡ length legs = length-map ss pos ∙ omega arith in
    let parts : parts_of (iter_rest (zip_first left)) (iter_rest (zip_second left)) ≡ ss =
    ap (λ l. parts_of l (iter_rest (zip_second left))) first
    ∙ (ap (parts_of legs) (second ∙ memory)
    ∙ (ap (map nat_abs) (take_at (map pos ss) _ (length legs) long)
    ∙ abs_all ss)) in
    rw (parts, first) (dealing_start (leg_deal c.args.origin line.number) ss legs _ (omega arith) (omega arith) c.requires)

-- what is left of the parts, after the one at hand
part_more : {legs legs_left : List OwnedLeg} {parts parts_left : List ℤ} {leg : OwnedLeg} {part : ℤ} {t : ℕ} → legs ≡ leg ∷ legs_left → parts ≡ part ∷ parts_left → t ≡ nat_abs part → parts_of legs parts ≡ t ∷ parts_of legs_left parts_left
unfolding parts_of
part_more {legs_left = legs_left} {parts = parts} {parts_left = parts_left} {leg = leg} first second same =
    ap (λ l. parts_of l parts) first ∙ (ap (parts_of (leg ∷ legs_left)) second ∙ ap (λ t. t ∷ parts_of legs_left parts_left) (sym same))

pub amount_of-requires : goal.amount_of-requires
unfolding parts_of
amount_of-requires c =
    let left = c.in-Some.ensures.steps in
    let part = c.in-Some.part.now in
    let small = dealing_small (nat_abs part) c.loop-leg.invariant left.0 (part_more left.0 left.1 refl) in
    let same : to_z w64 (of_z w64 part) ≡ part = to_z-of_z w64 part (omega (arith, ints)) in
    rw same small

pub loop-leg-preserved : goal.loop-leg-preserved
unfolding parts_of
loop-leg-preserved c =
    let left = c.in-Some.ensures.steps in
    let said = c.deal_leg-count.ensures in
    dealing_next c.amount_of.result.cents c.loop-leg.invariant left.0 (part_more left.0 left.1 (search rules)) c.deal_leg-count.result c.deal_leg-count.new.out said.count said.memory
