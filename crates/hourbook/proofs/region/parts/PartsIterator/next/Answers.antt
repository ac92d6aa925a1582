use Rattle.std.proofs.Common.{◌≡◌, ℕ, ◌+◌, List, ◌∷◌, drop, Some, sym, ◌∙◌, arith, rules}
use Rattle.std.specs.List.{slice_get}
use Rattle.std.proofs.lemmas.Grind.{common_steps}
use Rattle.std.proofs.lemmas.Option.{gets, slice_get_within}
use Rattle.std.proofs.Math.Seq.{drop-cons}
use Rattle.hourbook.proofs.region.parts.PartsIterator.next.Goals as goal

-- what is left from the k-th on begins with the k-th
drop_from_slice_get : {X : Type 0} (xs : List X) (k : ℕ) (x : X) → slice_get xs k ≡ Some x → drop k xs ≡ x ∷ drop (k + 1) xs
drop_from_slice_get xs k x e = let more = drop-cons xs k x (slice_get_within xs k x e) in grind (arith, common_steps, gets)

pub returns-in_err-part-clause-steps : goal.returns-in_err-part-clause-steps
returns-in_err-part-clause-steps g c = grind (arith, common_steps, gets)

pub overflow_add-self : goal.overflow_add-self
overflow_add-self g c =
    let s = c.args.self.now in
    let m = g.R.Region.meaning s.region.now in
    let few = g.met.P.Part.few m (g.met.R.Region.bounded s.region.now) in
    omega (arith, slice_get_within (g.P.Part.list m) s.next c.in_ok-part.part (sym c.at.ensures ∙ c.in_ok-part.was))

pub returns-clause-steps : goal.returns-clause-steps
returns-clause-steps g c =
    let s = c.args.self.now in
    drop_from_slice_get (g.P.Part.list (g.R.Region.meaning s.region.now)) s.next c.in_ok-part.part (sym c.at.ensures ∙ c.in_ok-part.was)

pub returns-clause-goes : goal.returns-clause-goes
returns-clause-goes g c =
    let s = c.args.self.now in
    let h = drop_from_slice_get (g.P.Part.list (g.R.Region.meaning s.region.now)) s.next c.in_ok-part.part (sym c.at.ensures ∙ c.in_ok-part.was) in
    search rules
