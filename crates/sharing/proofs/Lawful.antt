-- The laws of sharing. Assumes nothing.
use Rattle.std.proofs.Common.{sum, ◌≡◌, ℕ, zero, suc, ◌+◌, ◌-◌, ◌*◌, ◌/◌, ◌<◌, List, [], ◌∷◌, length, get_or, take, sym, refl, ap, ◌∙◌, inl, inr, add-mul, lt_of_mul-lt-mul_right, mul-zero, zero-add, zero-mul, mul-div_cancel, arith}
use native.Mathlib.Nat.{zero-div}
use Rattle.sharing.specs.Shares.{counts_as, cumulative, counted, whole, part, shares_from, shares}
use Rattle.sharing.specs.Laws.{IsBetweenRoundedSums, OneForEachRow, AddsToTheAmount, NearItsProportion, WithinItsCountedWeight, WithinItsWeight, AlikeByEqualWeight, NothingByWeight0, Fair}
use Rattle.sharing.proofs.Totals.{sum-cons}
use Rattle.sharing.proofs.Counted.{counted_some, counted_positive, length-counted, zero_or_more, counted_weight}
use Rattle.sharing.proofs.Division.{part_join, part_near, part_within}

-- one weight more
first_next : (ws : List ℕ) (k : ℕ) → k < length ws → sum (take (suc k) ws) ≡ sum (take k ws) + get_or ws k 0
first_next [] k h = omega arith
first_next (w ∷ ws) zero h = omega (arith, sum-cons w [])
first_next (w ∷ ws) (suc k) h = omega (arith, first_next ws k (omega arith), sum-cons w (take k ws), sum-cons w (take (suc k) ws))

from_at : (t n c : ℕ) (ws : List ℕ) (k : ℕ) → k < length ws
    → get_or (shares_from t n c ws) k 0 ≡ part t n (c + sum (take k ws)) (c + sum (take (suc k) ws))
from_at t n c [] k h = omega arith
from_at t n c (w ∷ ws) zero h =
    let p : c ≡ c + 0 = omega arith in
    let q : c + w ≡ c + sum (w ∷ []) = omega (arith, sum-cons w []) in
    cc
from_at t n c (w ∷ ws) (suc k) h =
    let rest = from_at t n (c + w) ws k (omega arith) in
    let p : (c + w) + sum (take k ws) ≡ c + sum (w ∷ take k ws) = omega (arith, sum-cons w (take k ws)) in
    let q : (c + w) + sum (take (suc k) ws) ≡ c + sum (w ∷ take (suc k) ws) = omega (arith, sum-cons w (take (suc k) ws)) in
    cc

from_total : (t n c : ℕ) (ws : List ℕ) → 0 < n → sum (shares_from t n c ws) ≡ part t n c (c + sum ws)
from_total t n c [] pos = let p : c + 0 ≡ c = omega arith in rw p (omega arith)
from_total t n c (w ∷ ws) pos =
    sum-cons (part t n c (c + w)) (shares_from t n (c + w) ws)
    ∙ ap (λ x. part t n c (c + w) + x) (from_total t n (c + w) ws pos)
    ∙ part_join t n c (c + w) ((c + w) + sum ws) pos (omega arith) (omega arith)
    ∙ ap (part t n c) (let e : (c + w) + sum ws ≡ c + sum (w ∷ ws) = omega (arith, sum-cons w ws) in e)

length_from : (t n c : ℕ) (ws : List ℕ) → length (shares_from t n c ws) ≡ length ws
length_from t n c [] = refl
length_from t n c (w ∷ ws) = ap suc (length_from t n (c + w) ws)

module _ (t : ℕ) (ws : List ℕ) where
  pub length-shares : OneForEachRow t ws
  length-shares = length_from t _ 0 (counted ws) ∙ length-counted ws

  pub adds : AddsToTheAmount t ws
  adds h =
      let n : ℕ = whole ws in
      let pos : 0 < n = counted_positive ws h in
      let top : t * (0 + n) / n ≡ t = ap (λ x. t * x / n) (zero-add n) ∙ mul-div_cancel t pos in
      let none : t * 0 / n ≡ 0 = ap (λ x. x / n) (mul-zero t) ∙ zero-div n in
      from_total t n 0 (counted ws) pos ∙ omega arith

  -- the share at place k, from the sum before it
  at_place : (k : ℕ) → k < length ws
      → get_or (shares t ws) k 0 ≡ part t (whole ws) (cumulative ws k) (cumulative ws k + get_or (counted ws) k 0)
  at_place k h =
      let cs : List ℕ = counted ws in
      let long : k < length cs = rw length-counted h in
      let told = from_at t (sum cs) 0 cs k long in
      let p = zero-add (sum (take k cs)) in
      let q = zero-add (sum (take (suc k) cs)) in
      let next = first_next cs k long in
      cc

  rounded_at : (k : ℕ) → k < length ws → get_or (shares t ws) k 0 ≡ part t (whole ws) (cumulative ws k) (cumulative ws (suc k))
  rounded_at k h =
      let long : k < length (counted ws) = rw length-counted h in
      at_place k h ∙ ap (part t (whole ws) (cumulative ws k)) (sym (first_next (counted ws) k long))

  pub rounded : IsBetweenRoundedSums t ws
  rounded k low high =
      let back : suc (k - 1) ≡ k = omega arith in
      rounded_at (k - 1) (omega arith) ∙ ap (λ j. part t (whole ws) (cumulative ws (k - 1)) (cumulative ws j)) back

  pub near : NearItsProportion t ws
  near k h = rw (at_place k h) (part_near t (whole ws) (cumulative ws k) (get_or (counted ws) k 0) (counted_positive ws (omega arith)))

  pub counted_within : WithinItsCountedWeight t ws
  counted_within le k h = rw (at_place k h) (part_within t (whole ws) (cumulative ws k) (get_or (counted ws) k 0) (counted_positive ws (omega arith)) le)

  -- nothing shared is nothing reached
  none_reached : (n a : ℕ) → t ≡ 0 → t * a / n ≡ 0
  none_reached n a e = ap (λ x. x * a / n) e ∙ ap (λ x. x / n) (zero-mul a) ∙ zero-div n

  pub within : WithinItsWeight t ws
  within le k h = elim (zero_or_more (sum ws)) [
    | inl e ↦ omega (arith, at_place k h, none_reached (whole ws) (cumulative ws k + get_or (counted ws) k 0) (omega arith))
    | inr p ↦
        let same : counted ws ≡ ws = counted_some ws p in
        omega (arith, counted_within (omega (arith, ap sum same)) k h, ap (λ l. get_or l k 0) same)
  ]

  pub alike : AlikeByEqualWeight t ws
  alike i j p q e =
      let n : ℕ = whole ws in
      let a : ℕ = get_or (shares t ws) i 0 in
      let b : ℕ = get_or (shares t ws) j 0 in
      let same : get_or (counted ws) i 0 ≡ get_or (counted ws) j 0 = counted_weight ws i p ∙ (ap (counts_as (sum ws)) e ∙ sym (counted_weight ws j q)) in
      let up = (near i p).0 in
      let low = (near j q).1 in
      let mul : t * get_or (counted ws) i 0 ≡ t * get_or (counted ws) j 0 = ap (λ w. t * w) same in
      let under : a * n < (b + 2) * n = omega (arith, add-mul b 2 n) in
      omega (arith, lt_of_mul-lt-mul_right n under)

  pub nothing : NothingByWeight0 t ws
  nothing some k h e =
      let same : counted ws ≡ ws = counted_some ws some in
      let none : get_or (counted ws) k 0 ≡ 0 = ap (λ l. get_or l k 0) same ∙ e in
      let stay : cumulative ws k + get_or (counted ws) k 0 ≡ cumulative ws k = omega arith in
      at_place k h ∙ ap (part t (whole ws) (cumulative ws k)) stay ∙ omega arith

  pub fair : Fair t ws
  fair = record { rounded = rounded; each = length-shares; adds = adds; near = near; counted_within = counted_within; within = within; alike = alike; nothing = nothing }
