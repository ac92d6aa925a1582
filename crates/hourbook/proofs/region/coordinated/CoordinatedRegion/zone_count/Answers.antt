use Rattle.std.proofs.Common.{arith}
use Rattle.std.proofs.lemmas.Grind.{common_steps}
use Rattle.std.proofs.lemmas.List.{length-map}
use Rattle.std.proofs.lemmas.Slice.Zip.{length-zip}
use Rattle.hourbook.proofs.region.coordinated.CoordinatedRegion.zone_count.Goals as goal

pub returns : goal.returns
returns c =
    let s = c.args.self.now in
    let p = s.paired in
    let a = s.prices.now.list.ok.0 in
    let b = s.network.now.positions.ok.0 in
    grind (arith, common_steps, length-map, length-zip)
