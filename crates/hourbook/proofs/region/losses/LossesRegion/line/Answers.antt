use Rattle.std.proofs.Common.{◌≡◌, ℕ, zero, suc, List, [], ◌∷◌, get_or, refl, rules}
use Rattle.std.specs.List.{slice_get}
use Rattle.std.specs.Option.{option_map}
use Rattle.hourbook.specs.declared.region.rows.Line.{Line}
use Rattle.hourbook.specs.LossRule.{lessen, lossy}
use Rattle.hourbook.proofs.region.losses.LossesRegion.line.Goals as goal

slice_get-lessen : (ps : List ℕ) (xs : List Line) (k : ℕ) → slice_get (lessen ps xs) k ≡ option_map (lossy (get_or ps k 0)) (slice_get xs k)
slice_get-lessen ps [] k = refl
slice_get-lessen [] (x ∷ xs) zero = refl
slice_get-lessen [] (x ∷ xs) (suc k) = slice_get-lessen [] xs k
slice_get-lessen (p ∷ ps) (x ∷ xs) zero = refl
slice_get-lessen (p ∷ ps) (x ∷ xs) (suc k) = slice_get-lessen ps xs k

pub returns : goal.returns
returns g c =
    let s = c.args.self.now in
    rw (slice_get-lessen s.table.losses.items (g.R.Region.meaning s.below).lines c.args.k) (search rules)
