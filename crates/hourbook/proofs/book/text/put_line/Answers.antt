use Rattle.std.proofs.Common.{ℕ, suc, List, ℤ, [], ◌∷◌, ◌+◌, ◌*◌, ◌<◌, ◌≤◌, arith, length, get_or, drop, pos, w64, SFits, sym, subst, rules}
use Rattle.std.specs.Fmt.{signed_decimal}
use Rattle.std.proofs.lemmas.Fmt.{length_signed_le}
use Rattle.std.proofs.lemmas.Int.{ints, to_z-of_z}
use Rattle.std.proofs.lemmas.List.{at_drop_more, at_drop_all, length-append}
use borrow.Author.Count.{below_none, below_more}
use Rattle.hourbook.specs.Text.{fields_of, line_of}
use Rattle.hourbook.proofs.Sinking.{Underway, room_first, begun, one_more, ended}
use Rattle.hourbook.proofs.book.text.put_line.Goals as goal

pub put-requires : goal.put-requires
unfolding line_of
put-requires g c =
    room_first g.met.S.Sink.laws c.args.sink.now (c.args.letter ∷ []) (fields_of c.args.fields.now) c.requires

pub loop-number-init : goal.loop-number-init
unfolding line_of
loop-number-init g c = record {
  text = begun g.met.S.Sink.laws c.args.sink.now c.put.new.self (c.args.letter ∷ []) (fields_of c.args.fields.now) c.requires c.put.ensures;
  numbers = below_none (λ k. SFits w64 (get_or c.args.fields.now k (pos 0)));
}

pub put_field-requires : goal.put_field-requires
put_field-requires g c =
    let zs = c.args.fields.now in
    let i = c.loop-number.number-index in
    let f : SFits w64 (get_or zs i (pos 0)) = search rules in
    let room = subst (λ t. g.S.Sink.has_room c.loop-number.sink (length t)) (at_drop_more fields_of zs i (pos 0) c.loop-number-test.true) c.loop-number.invariant.text.room in
    subst (λ z. g.S.Sink.has_room c.loop-number.sink (length (32 ∷ signed_decimal z))) (sym (to_z-of_z w64 (get_or zs i (pos 0)) f))
    (room_first g.met.S.Sink.laws c.loop-number.sink (32 ∷ signed_decimal (get_or zs i (pos 0))) (fields_of (drop (i + 1) zs)) room)

pub loop-number-preserved : goal.loop-number-preserved
loop-number-preserved g c =
    let zs = c.args.fields.now in
    let i = c.loop-number.number-index in
    let f : SFits w64 (get_or zs i (pos 0)) = search rules in
    let s = subst (Underway g.S.Sink.has_room g.S.Sink.took c.args.sink.now c.loop-number.sink (line_of c.args.letter zs)) (at_drop_more fields_of zs i (pos 0) c.loop-number-test.true) c.loop-number.invariant.text in
    record {
      text = one_more g.met.S.Sink.laws _ _ _ _ (32 ∷ signed_decimal (get_or zs i (pos 0))) (fields_of (drop (i + 1) zs)) s (simp (to_z-of_z w64 (get_or zs i (pos 0)) f) at c.put_field.ensures);
      numbers = below_more (λ k. SFits w64 (get_or zs k (pos 0))) i c.loop-number.invariant.numbers f;
    }

pub put-requires-2 : goal.put-requires-2
put-requires-2 g c =
    let e = at_drop_all fields_of c.args.fields.now c.loop-number.number-index c.loop-number-test.false in
    subst (λ t. g.S.Sink.has_room c.loop-number.sink (length t)) e c.loop-number.invariant.text.room

-- each field is a space and at most 20 bytes
short_fields : (zs : List ℤ) → ((k : ℕ) → k < length zs → SFits w64 (get_or zs k (pos 0))) → length (fields_of zs) ≤ 1 + 21 * length zs
short_fields [] fits = omega arith
short_fields (z ∷ zs) fits =
    let here : SFits w64 z = fits 0 (omega arith) in
    let field : length (signed_decimal z) ≤ 20 = length_signed_le 19 z (omega (arith, ints)) (omega (arith, ints)) in
    let rest = short_fields zs (λ k h. fits (suc k) (omega arith)) in
    omega (arith, length-append (signed_decimal z) (fields_of zs))

pub returns : goal.returns
unfolding line_of
returns g c =
    let zs = c.args.fields.now in
    let e = at_drop_all fields_of zs c.loop-number.number-index c.loop-number-test.false in
    let s = subst (Underway g.S.Sink.has_room g.S.Sink.took c.args.sink.now c.loop-number.sink (line_of c.args.letter zs)) e c.loop-number.invariant.text in
    record {
      line = ended g.met.S.Sink.laws _ _ _ _ (10 ∷ []) s c.put-2.ensures;
      short = λ few. omega (arith, short_fields zs (λ k h. c.loop-number.invariant.numbers k (omega arith)));
    }
