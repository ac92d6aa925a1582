use Rattle.std.proofs.Common.{◌≡◌, ◌∙◌, sym, ap, Some}
use Rattle.std.proofs.lemmas.Option.{slice_get-map}
use Rattle.std.specs.List.{slice_get}
use Rattle.hourbook.proofs.Nths.{copied_from_item, sound}
use Rattle.hourbook.proofs.region.coordinated.CoordinatedRegion.line.Goals as goal

pub returns : goal.returns
returns c =
    let s = c.args.self.now in
    let v = sound s.verdict (sym c.ok.ensures.value ∙ c.in_ok-ok.was) in
    let border : Some c.in_ok-border.border.now ≡ slice_get s.network.now.borders.items c.args.k = rw c.borders.ensures.value at (copied_from_item c.borders.result.now c.args.k (Some c.in_ok-border.border) c.in_ok-border.ensures.lookup) in
    simp (v, slice_get-map, sym border) (ap Some c.line_of.ensures)
