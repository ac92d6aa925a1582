use Rattle.std.proofs.Common.{◌≡◌, ◌∙◌, sym, Some, None, arith}
use Rattle.std.proofs.lemmas.Int.{ints, to_z-of_z}
use Rattle.std.proofs.lemmas.Option.{slice_get-map}
use Rattle.std.specs.List.{slice_get}
use Rattle.hourbook.proofs.Nths.{copied_from_item, slice_get-zip, sound}
use Rattle.hourbook.proofs.region.coordinated.CoordinatedRegion.zone.Goals as goal

pub returns-in_err-price : goal.returns-in_err-price
returns-in_err-price c =
    let s = c.args.self.now in
    let v = sound s.verdict (sym c.ok.ensures.value ∙ c.in_ok-ok.was) in
    let price : None ≡ slice_get s.prices.now.list.items c.args.k = rw c.list.ensures at (copied_from_item c.list.result.now c.args.k None c.in_err-price.ensures.lookup) in
    simp (v, slice_get-map, slice_get-zip, sym price) c.from_residual-in_err-price.ensures

pub returns : goal.returns
returns c =
    let s = c.args.self.now in
    let v = sound s.verdict (sym c.ok.ensures.value ∙ c.in_ok-ok.was) in
    let price : Some c.in_ok-price.price.now ≡ slice_get s.prices.now.list.items c.args.k = rw c.list.ensures at (copied_from_item c.list.result.now c.args.k (Some c.in_ok-price.price) c.in_ok-price.ensures.lookup) in
    let position : Some c.in_ok-position.position.now ≡ slice_get s.network.now.positions.items c.args.k = rw c.positions.ensures.value at (copied_from_item c.positions.result.now c.args.k (Some c.in_ok-position.position) c.in_ok-position.ensures.lookup) in
    simp (v, slice_get-map, slice_get-zip, sym price, sym position) (grind (arith, ints, to_z-of_z))
