use Rattle.std.proofs.Common.{[], ◌∷◌, length, w64, ap, ◌∙◌, sym, subst}
use Rattle.std.specs.Fmt.{signed_decimal}
use Rattle.std.proofs.lemmas.Int.{to_z-of_z}
use Rattle.hourbook.proofs.Sinking.{room_first, room_rest}
use Rattle.hourbook.proofs.book.text.put_field.Goals as goal

pub put-requires : goal.put-requires
put-requires g c =
    room_first g.met.S.Sink.laws c.args.sink.now (32 ∷ []) (signed_decimal c.args.number) c.requires

pub put-requires-2 : goal.put-requires-2
put-requires-2 g c =
    let digits = c.as_bytes.ensures.value ∙ (c.format.ensures.text ∙ ap signed_decimal (to_z-of_z w64 c.args.number c.ranges.number)) in
    subst (λ t. g.S.Sink.has_room c.put.new.self (length t)) (sym digits)
    (room_rest g.met.S.Sink.laws c.args.sink.now c.put.new.self (32 ∷ []) (signed_decimal c.args.number) c.requires c.put.ensures)

pub returns : goal.returns
returns g c =
    let digits = c.as_bytes.ensures.value ∙ (c.format.ensures.text ∙ ap signed_decimal (to_z-of_z w64 c.args.number c.ranges.number)) in
    subst (λ t. g.S.Sink.took c.args.sink.now (32 ∷ t) c.put-2.new.self) digits
    (g.met.S.Sink.laws.joined c.args.sink.now c.put.new.self c.put-2.new.self (32 ∷ []) c.as_bytes.result.now c.put.ensures c.put-2.ensures)
