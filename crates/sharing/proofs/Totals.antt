-- Sums over what is left of a list. Assumes nothing.
use Rattle.std.proofs.Common.{sum, ◌≡◌, ℕ, ◌+◌, ◌<◌, ◌≤◌, List, ◌∷◌, map, length, get_or, drop, sym, ap, ◌∙◌}
use Rattle.std.proofs.lemmas.List.{at_drop_more, at_drop_all}
use Rattle.std.proofs.lemmas.List.Sums.{sum_by-cons}

pub sum-cons : (x : ℕ) (xs : List ℕ) → sum (x ∷ xs) ≡ x + sum xs
sum-cons = sum_by-cons (λ n. n)

module _ {X : Type 0} (f : X → ℕ) where
  -- a function of the mapped rest, one row on
  pub map_next : {Y : Type 0} (F : List ℕ → Y) (xs : List X) (i : ℕ) (x : X) → i < length xs → x ≡ get_or xs i x → F (map f (drop i xs)) ≡ F (f x ∷ map f (drop (i + 1) xs))
  map_next F xs i x within read =
      at_drop_more (λ ys. F (map f ys)) xs i x within ∙ ap (λ y. F (f y ∷ map f (drop (i + 1) xs))) (sym read)

  pub total_next : (xs : List X) (i : ℕ) (x : X) → i < length xs → x ≡ get_or xs i x → sum (map f (drop i xs)) ≡ f x + sum (map f (drop (i + 1) xs))
  total_next xs i x within read = map_next sum xs i x within read ∙ sum-cons (f x) (map f (drop (i + 1) xs))

  pub total_end : (xs : List X) (i : ℕ) → length xs ≤ i → sum (map f (drop i xs)) ≡ 0
  total_end = at_drop_all (λ ys. sum (map f ys))
