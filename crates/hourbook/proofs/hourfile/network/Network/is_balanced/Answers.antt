use Rattle.std.proofs.Common.{◌≡◌, ℕ, ◌+◌, ◌<◌, Bool, true, false, List, [], ◌∷◌, length, get_or, pos, Decides, MatchBool, sym, refl, ap, ◌∙◌, subst, arith, rules, tests}
use Rattle.std.specs.List.{AllWithin, HoldsAt, enumerate_from}
use Rattle.std.proofs.lemmas.Bool.{false≢true}
use Rattle.std.proofs.lemmas.List.{get_or-map, length-map}
use Rattle.std.proofs.lemmas.List.FromFn.{length-enumerate_from, get_or-enumerate_from}
use Rattle.hourbook.specs.declared.hourfile.border.Border.{Border}
use Rattle.hourbook.specs.SignedSums.{sum_z}
use Rattle.hourbook.specs.Tables.{NetPosition, tenths_of}
use Rattle.hourbook.specs.Balance.{net_capacity, Balanced}
use Rattle.std.proofs.lemmas.Int.{ints}
use Rattle.std.proofs.lemmas.Iterator.{YieldsList-from_slice, cases_from_all}
use Rattle.std.proofs.lemmas.Iterator.Consumers.{YieldsList-at, YieldsList-from_enumerate}
use Rattle.hourbook.proofs.hourfile.network.Network.is_balanced.Goals as goal

element : {X : Type 0} (xs : List X) (k : ℕ) → k < length xs → X
element [] k h = absurd (omega arith)
element (x ∷ xs) k h = x

module _ (ns : List NetPosition) (bs : List Border) where
  -- the k-th net position is what the capacities take out of its zone
  abbrev Met : ℕ × NetPosition → Type 0
  Met p = p.1.value ≡ net_capacity (p.0 + 1) bs

  numbered : (k : ℕ) (n : NetPosition) → k < length ns → get_or (enumerate_from 0 ns) k (0, n) ≡ (k, get_or ns k n)
  numbered k n h = get_or-enumerate_from 0 ns k (0, n) h ∙ ap (λ i. (i, get_or ns k n)) (omega arith)

  read : (k : ℕ) (n : NetPosition) → k < length ns → get_or (tenths_of ns) k (pos 0) ≡ (get_or ns k n).value
  read k n h = get_or-map (λ (p : NetPosition). p.value) ns k n (pos 0) h

  balance_decided : (r : Bool) → sum_z (tenths_of ns) ≡ pos 0 → MatchBool r (AllWithin Met (enumerate_from 0 ns) 0 (length (enumerate_from 0 ns))) ((k : ℕ) × (k < length (enumerate_from 0 ns)) × HoldsAt (λ p. Met p → ⊥) (enumerate_from 0 ns) k) → Decides r (Balanced (tenths_of ns) bs)
  balance_decided true zero h =
      let long = length-map ns (λ p. p.value) in
      let same = length-enumerate_from 0 ns in
      let each : (k : ℕ) → k < length (tenths_of ns) → get_or (tenths_of ns) k (pos 0) ≡ net_capacity (k + 1) bs =
      λ k i.
      let j : k < length ns = omega arith in
      let n = element ns k j in
      read k n j ∙ subst Met (numbered k n j) (h k (0, n) (omega arith) (omega arith)) in
      (λ _. record { zero = zero; each = each }, λ _. refl)
  balance_decided false zero h =
      let long = length-map ns (λ p. p.value) in
      let same = length-enumerate_from 0 ns in
      let j : h.0 < length ns = omega (arith, h.1) in
      let n = element ns h.0 j in
      (λ e. absurd (false≢true e), λ balanced. absurd (subst (λ p. Met p → ⊥) (numbered h.0 n j) (h.2 (0, n)) (sym (read h.0 n j) ∙ balanced.each h.0 (omega (arith, j)))))

pub returns-then-position_sum-eq0 : goal.returns-then-position_sum-eq0
returns-then-position_sum-eq0 c =
    let ns = c.args.self.now.positions.items in
    let bs = c.args.self.now.borders.items in
    let yields = YieldsList-from_enumerate (YieldsList-at c.enumerate.ensures.source (YieldsList-from_slice ns cc)) (cc) in
    let found = cases_from_all _ _ _ (Met ns bs) (λ p. Met ns bs p → ⊥) c.all.ensures.ran yields (λ x q k. search (rules, tests)) (λ x q k. search (rules, tests)) in
    balance_decided ns bs c.all.result (omega (arith, ints)) found
