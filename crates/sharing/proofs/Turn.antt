-- The loop that shares, over the counted weights cs: what stands at place i, one turn, and the end. Assumes nothing.
use Rattle.std.proofs.Common.{sum, ◌≡◌, ℕ, ◌+◌, ◌<◌, ◌≤◌, List, ◌∷◌, length, get_or, drop, set, sym, ap, ◌∙◌, arith}
use Rattle.std.proofs.lemmas.List.{at_drop_more, at_drop_all, length-set}
use Rattle.std.proofs.lemmas.List.Sums.{sum_by-drop_more}
use Rattle.sharing.specs.Shares.{part, shares_from}
use Rattle.sharing.specs.Writes.{written, cells}
use Rattle.sharing.proofs.Writing.{written_none, written-set}

-- the first i rows have their shares: `run` is the sum of their counted weights
pub record Underway {R X : Type 0} (cell : R → ℕ → X) (rows : List R) (t n : ℕ) (cs : List ℕ) (before : List X) (at i run : ℕ) (out : List X) : Type 0 where
  pub all : n ≡ sum cs
  pub some : 0 < length cs → 0 < n
  pub same : length rows ≡ length cs
  pub within : i ≤ length cs
  pub room : at + length cs ≤ length out
  pub left : run + sum (drop i cs) ≡ n
  pub memory : written out (at + i) (cells cell (drop i rows) (shares_from t n run (drop i cs))) ≡ written before at (cells cell rows (shares_from t n 0 cs))

module _ {R X : Type 0} (cell : R → ℕ → X) (rows : List R) (t n : ℕ) (cs : List ℕ) (before : List X) (at : ℕ) where
  pub underway_start : n ≡ sum cs → (0 < length cs → 0 < n) → length rows ≡ length cs → at + length cs ≤ length before → Underway cell rows t n cs before at 0 0 before
  underway_start e some same room =
      let z : at + 0 ≡ at = omega arith in
      record {
        all = e;
        some = some;
        same = same;
        within = omega arith;
        room = room;
        left = omega arith;
        memory = ap (λ p. written before p (cells cell rows (shares_from t n 0 cs))) z;
      }

  module _ (i run w : ℕ) (out : List X) (s : Underway cell rows t n cs before at i run out) (h : i < length cs) (e : w ≡ get_or cs i 0) where
    -- the row at place i counts with w
    pub positive : 0 < n
    positive = s.some (omega arith)

    pub run_fits : run + w ≤ n
    run_fits =
        let sums : sum (drop i cs) ≡ get_or cs i 0 + sum (drop (i + 1) cs) = sum_by-drop_more (λ n. n) cs i 0 h in
        omega (arith, s.left)

    pub underway_next : (r : R) → r ≡ get_or rows i r → Underway cell rows t n cs before at (i + 1) (run + w) (set out (at + i) (cell r (part t n run (run + w))))
    underway_next r r_is =
        let sums : sum (drop i cs) ≡ get_or cs i 0 + sum (drop (i + 1) cs) = sum_by-drop_more (λ n. n) cs i 0 h in
        let rest : List X = cells cell (drop (i + 1) rows) (shares_from t n (run + w) (drop (i + 1) cs)) in
        let row : i < length rows = omega (arith, s.same) in
        let step : cells cell (drop i rows) (shares_from t n run (drop i cs)) ≡ cell r (part t n run (run + w)) ∷ rest =
        at_drop_more (λ l. cells cell (drop i rows) (shares_from t n run l)) cs i 0 h
        ∙ (ap (λ v. cells cell (drop i rows) (part t n run (run + v) ∷ shares_from t n (run + v) (drop (i + 1) cs))) (sym e)
        ∙ (at_drop_more (λ l. cells cell l ((part t n run (run + w)) ∷ shares_from t n (run + w) (drop (i + 1) cs))) rows i r row
        ∙ ap (λ y. cell y (part t n run (run + w)) ∷ rest) (sym r_is))) in
        let v : X = cell r (part t n run (run + w)) in
        let here : at + i < length out = omega (arith, s.room) in
        let p : at + (i + 1) ≡ (at + i) + 1 = omega arith in
        record {
          all = s.all;
          some = s.some;
          same = s.same;
          within = omega arith;
          room = rw length-set s.room;
          left = omega (arith, s.left);
          memory =
              ap (λ q. written (set out (at + i) v) q rest) p
              ∙ (written-set out (at + i) v rest here
              ∙ (ap (written out (at + i)) (sym step) ∙ s.memory));
        }

  pub underway_end : (i run : ℕ) (out : List X) → Underway cell rows t n cs before at i run out → length cs ≤ i → out ≡ written before at (cells cell rows (shares_from t (sum cs) 0 cs))
  underway_end i run out s h =
      sym (written_none out (at + i)) ∙ (ap (written out (at + i)) (sym (at_drop_all (λ l. cells cell l (shares_from t n run (drop i cs))) rows i (omega (arith, s.same)))) ∙ (s.memory
      ∙ ap (λ m. written before at (cells cell rows (shares_from t m 0 cs))) s.all))
