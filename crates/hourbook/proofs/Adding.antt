-- Sums that chains of iterators make. Assumes nothing.
use Rattle.std.proofs.Common.{◌≡◌, ℕ, ◌+◌, ◌*◌, ◌^◌, ◌<◌, ◌≤◌, List, [], ◌∷◌, length, take, ℤ, pos, ◌+ℤ◌, nat_abs, All, FitsSigned, w64, None, Option, fold, sym, refl, ap, ◌∙◌, subst, arith}
use Rattle.std.specs.Bool.{⊤}
use Rattle.std.specs.Iterator.{Drains, Yields}
use Rattle.std.specs.Iterator.Runs.{EachRunFrom, YieldsRun}
use Rattle.std.proofs.lemmas.Int.{ints}
use Rattle.std.proofs.lemmas.Iterator.{YieldsList}
use Rattle.std.proofs.lemmas.Iterator.Consumers.{YieldsList-so_far, YieldsList-end}
use Rattle.std.proofs.lemmas.List.{map-id, length-take}
use Rattle.std.proofs.lemmas.List.Elements.{All-head, All-tail, All-take}
use Rattle.std.proofs.lemmas.Nat.{mul-le}
use Rattle.std.proofs.Math.Nat.{suc-mul}
use Rattle.hourbook.specs.SignedSums.{sum_z}

-- numbers of at most m either way add to at most m for each
pub added_bound : (m : ℕ) (a : ℤ) (zs : List ℤ) → All (λ z. nat_abs z ≤ m) zs → nat_abs (fold ◌+ℤ◌ a zs) ≤ nat_abs a + length zs * m
added_bound m a [] h = omega arith
added_bound m a (z ∷ zs) h =
    let here = All-head (λ x. nat_abs x ≤ m) z zs h in
    let rest = added_bound m (a +ℤ z) zs (All-tail (λ x. nat_abs x ≤ m) z zs h) in
    omega (arith, ints, suc-mul (length zs) m)

module _ {S : Type 0} {steps : S → Option ℤ → S → Type 0} (s : S) (all : List ℤ) (yields : YieldsList steps (λ z. z) s all) where
  -- what `sum` requires, where the items keep a limit
  pub signed_fits : (m n : ℕ) → All (λ z. nat_abs z ≤ m) all → length all ≤ n → n * m < 2 ^ 63 → EachRunFrom steps s (λ p. FitsSigned w64 (fold ◌+ℤ◌ (pos 0) p.items))
  unfolding YieldsRun
  signed_fits m n small few fits = λ p _ at.
      let so_far = YieldsList-so_far yields p.items p.gave.0.0 (subst (λ u. Yields steps u p.items p.gave.0.0) at p.gave.0.1) in
      let items : p.items ≡ take (length p.items) all = sym (map-id p.items) ∙ so_far in
      let low = added_bound m (pos 0) (take (length p.items) all) (All-take (λ z. nat_abs z ≤ m) (length p.items) all small) in
      let most = mul-le (length (take (length p.items) all)) m n m (omega (arith, length-take (length p.items) all)) (omega arith) in
      subst (λ zs. FitsSigned w64 (sum_z zs)) (sym items) (omega (arith, ints))

  pub signed_sum : (r : ℤ) → ((xs : List ℤ) × (⊤ → Drains steps s xs) × (r ≡ fold ◌+ℤ◌ (pos 0) xs)) → r ≡ sum_z all
  signed_sum r d =
      let end = d.1 tt in
      d.2 ∙ ap sum_z (sym (map-id d.0) ∙ (YieldsList-end yields d.0 end.1.0 end.1.1 None end.0 refl end.1.2).0)

sum_z_from : (a : ℤ) (zs : List ℤ) → fold ◌+ℤ◌ a zs ≡ a +ℤ sum_z zs
sum_z_from a [] = omega (arith, ints)
sum_z_from a (z ∷ zs) =
    let more = sum_z_from (a +ℤ z) zs in
    let first = sum_z_from (pos 0 +ℤ z) zs in
    omega (arith, ints)

pub sum_z-cons : (z : ℤ) (zs : List ℤ) → sum_z (z ∷ zs) ≡ z +ℤ sum_z zs
sum_z-cons z zs = let first = sum_z_from (pos 0 +ℤ z) zs in omega (arith, ints)
