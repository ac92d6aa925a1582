-- Laws of writing at a place. Assumes nothing.
use Rattle.std.proofs.Common.{◌≡◌, ℕ, suc, ◌+◌, ◌<◌, ◌≤◌, List, [], ◌∷◌, ◌++◌, length, take, drop, set, sym, ap, ◌∙◌, arith}
use Rattle.std.proofs.lemmas.List.{append_assoc, take-append-drop, take_more_set, drop-set-lt, length-append, length-take-le, length-drop, take_at, drop_at, drop-drop}
use Rattle.sharing.specs.Writes.{written}

module _ {X : Type 0} where
  pub written_none : (m : List X) (at : ℕ) → written m at [] ≡ m
  written_none m at =
      let z : at + 0 ≡ at = omega arith in
      ap (λ k. take at m ++ drop k m) z ∙ take-append-drop at m

  -- one more in front
  pub written-set : (m : List X) (at : ℕ) (x : X) (xs : List X) → at < length m → written (set m at x) (at + 1) xs ≡ written m at (x ∷ xs)
  written-set m at x xs h =
      let e : (at + 1) + length xs ≡ at + suc (length xs) = omega arith in
      ap (λ t. t ++ (xs ++ drop ((at + 1) + length xs) (set m at x))) (take_more_set m at x h)
      ∙ (append_assoc (take at m) (x ∷ []) _
      ∙ (ap (λ t. take at m ++ (x ∷ (xs ++ t))) (drop-set-lt ((at + 1) + length xs) m at x (omega arith))
      ∙ ap (λ k. take at m ++ (x ∷ (xs ++ drop k m))) e))

  pub length-written : (m : List X) (at : ℕ) (xs : List X) → at + length xs ≤ length m → length (written m at xs) ≡ length m
  length-written m at xs h =
      let a = length-append (take at m) (xs ++ drop (at + length xs) m) in
      let b = length-append xs (drop (at + length xs) m) in
      let t = length-take-le at m (omega arith) in
      let d = length-drop (at + length xs) m in
      omega arith

  -- two lists, one after the other
  pub written-append : (m : List X) (at : ℕ) (xs ys : List X) → at + length xs ≤ length m → written (written m at xs) (at + length xs) ys ≡ written m at (xs ++ ys)
  written-append m at xs ys h =
      let n : ℕ = at + length xs in
      let p : List X = take at m ++ xs in
      let rest : List X = drop n m in
      let t = length-take-le at m (omega arith) in
      let len : length p ≡ n = length-append (take at m) xs ∙ ap (λ k. k + length xs) t in
      let whole : written m at xs ≡ p ++ rest = sym (append_assoc (take at m) xs rest) in
      let front : take n (written m at xs) ≡ p = ap (take n) whole ∙ take_at p rest n len in
      let back : drop (n + length ys) (written m at xs) ≡ drop (at + length (xs ++ ys)) m =
      sym (drop-drop (length ys) n (written m at xs)) ∙ (ap (λ l. drop (length ys) (drop n l)) whole
      ∙ (ap (drop (length ys)) (drop_at p rest n len) ∙ (drop-drop (length ys) n m
      ∙ ap (λ k. drop k m) (let e : n + length ys ≡ at + length (xs ++ ys) = omega (arith, length-append xs ys) in e)))) in
      ap (λ l. l ++ (ys ++ drop (n + length ys) (written m at xs))) front
      ∙ (ap (λ l. p ++ (ys ++ l)) back
      ∙ (append_assoc (take at m) xs _
      ∙ ap (λ l. take at m ++ l) (sym (append_assoc xs ys (drop (at + length (xs ++ ys)) m)))))
