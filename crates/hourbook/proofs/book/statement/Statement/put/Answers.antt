use Rattle.std.proofs.Common.{◌≡◌, [], ◌∷◌, ◌++◌, length, get_or, w64, SFits, sym, subst, ◌∙◌, rules}
use Rattle.std.specs.List.{flat_map}
use Rattle.std.proofs.lemmas.Int.{to_z-of_z}
use Rattle.hourbook.specs.Text.{line_of}
use Rattle.hourbook.specs.Statements.{entry_line, owner_line, balance_line, balance_of, own}
use Rattle.hourbook.proofs.Owns.{blank, lines_yes, lines_no, lines_none}
use Rattle.hourbook.proofs.Sinking.{Underway, room_first, begun, one_more, ended}
use Rattle.hourbook.proofs.book.statement.Statement.put.Goals as goal
use Rattle.hourbook.proofs.book.statement.Statement.put.Goals.{then-entry-self, else-entry-self}

pub put_line-requires : goal.put_line-requires
put_line-requires g c =
    let f : SFits w64 c.from.result = search rules in
    let room = subst (λ t. g.S.Sink.has_room c.args.sink.now (length t)) (sym c.self.view_is) c.requires in
    subst (λ z. g.S.Sink.has_room c.args.sink.now (length (line_of 79 (z ∷ [])))) (sym (to_z-of_z w64 c.from.result f ∙ c.from.ensures))
    (room_first g.met.S.Sink.laws c.args.sink.now (owner_line c.self.inside.owner) _ room)

pub loop-row-init : goal.loop-row-init
loop-row-init g c =
    let f : SFits w64 c.from.result = search rules in
    let room = subst (λ t. g.S.Sink.has_room c.args.sink.now (length t)) (sym c.self.view_is) c.requires in
    let rest = flat_map entry_line (own c.self.inside.owner c.self.inside.entries.now) ++ balance_line (balance_of (own c.self.inside.owner c.self.inside.entries.now)) in
    subst (λ t. Underway g.S.Sink.has_room g.S.Sink.took c.args.sink.now c.put_line.new.sink t rest) c.self.view_is
    (begun g.met.S.Sink.laws c.args.sink.now c.put_line.new.sink (owner_line c.self.inside.owner) rest room
    (subst (λ z. g.S.Sink.took c.args.sink.now (line_of 79 (z ∷ [])) c.put_line.new.sink) (to_z-of_z w64 c.from.result f ∙ c.from.ensures) c.put_line.ensures.line))

pub put_line-requires-then-entry-self : goal.put_line-requires-then-entry-self
put_line-requires-then-entry-self g c =
    let s = c.self.inside in
    let i = c.loop-row.row-index in
    let e : line_of c.letter.result c.numbers.result ≡ entry_line (get_or s.entries.now i blank) = cc in
    subst (λ t. g.S.Sink.has_room c.loop-row.sink (length t)) (sym e)
    (room_first g.met.S.Sink.laws c.loop-row.sink _ _ (lines_yes _ s.owner s.entries.now i c.loop-row.invariant c.loop-row-test.true (sym c.from-entry.ensures.owner ∙ c.if-entry-self.true)).room)

pub loop-row-preserved : goal.loop-row-preserved
loop-row-preserved g c =
    let s = c.self.inside in
    let i = c.loop-row.row-index in
    elim c.if-entry-self.branch [
      | then-entry-self w ↦
          let e : line_of w.letter.result w.numbers.result ≡ entry_line (get_or s.entries.now i blank) = cc in
          rw w.sink-is
          (one_more g.met.S.Sink.laws _ c.loop-row.sink _ _ _ _
          (lines_yes _ s.owner s.entries.now i c.loop-row.invariant c.loop-row-test.true (sym c.from-entry.ensures.owner ∙ w.if-entry-self.true))
          (subst (λ t. g.S.Sink.took c.loop-row.sink t w.put_line-then-entry-self.new.sink) e w.put_line-then-entry-self.ensures.line))
      | else-entry-self w ↦
          rw w.sink-is
          (lines_no _ s.owner s.entries.now i c.loop-row.invariant c.loop-row-test.true (λ h. w.if-entry-self.false (c.from-entry.ensures.owner ∙ h)))
    ]

pub put_line-requires-2 : goal.put_line-requires-2
put_line-requires-2 g c =
    let s = c.self.inside in
    let f : SFits w64 s.balance = search rules in
    subst (λ z. g.S.Sink.has_room c.loop-row.sink (length (line_of 66 (z ∷ [])))) (sym (to_z-of_z w64 s.balance f ∙ c.self.invariant))
    (lines_none _ s.owner s.entries.now c.loop-row.row-index c.loop-row.invariant c.loop-row-test.false).room

pub returns : goal.returns
returns g c =
    let s = c.self.inside in
    let f : SFits w64 s.balance = search rules in
    ended g.met.S.Sink.laws _ c.loop-row.sink _ _ _
    (lines_none _ s.owner s.entries.now c.loop-row.row-index c.loop-row.invariant c.loop-row-test.false)
    (subst (λ z. g.S.Sink.took c.loop-row.sink (line_of 66 (z ∷ [])) c.put_line-2.new.sink) (to_z-of_z w64 s.balance f ∙ c.self.invariant) c.put_line-2.ensures.line)
