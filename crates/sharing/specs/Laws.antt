-- What holds of every sharing of an amount t over rows with the weights ws. Assumes nothing.
use Rattle.std.specs.Prelude.{sum, ◌≡◌, ℕ, ◌+◌, ◌-◌, ◌*◌, ◌/◌, ◌<◌, ◌≤◌, List, [], ◌∷◌, map, length, slice_index}
use Rattle.std.specs.List.{AllByRecursion}
use Rattle.sharing.specs.Shares.{counted, cumulative, whole, shares}
use Rattle.sharing.specs.Levels.{shared_on}

-- the share of row k, counted from 1, is ⌊T × C(k) / C(n)⌋ − ⌊T × C(k−1) / C(n)⌋
abbrev pub IsBetweenRoundedSums : ℕ → List ℕ → Type 0
IsBetweenRoundedSums t ws = (k : ℕ) → 1 ≤ k → k ≤ length ws
    → slice_index (shares t ws) (k - 1) ≡ t * cumulative ws k / whole ws - t * cumulative ws (k - 1) / whole ws

-- there is one share for each row
abbrev pub OneForEachRow : ℕ → List ℕ → Type 0
OneForEachRow t ws = length (shares t ws) ≡ length ws

-- the shares add to the amount where there is a row
abbrev pub AddsToTheAmount : ℕ → List ℕ → Type 0
AddsToTheAmount t ws = 0 < length ws → sum (shares t ws) ≡ t

-- each share is less than 1 from T × weight / C(n), by the counted weight
abbrev pub NearItsProportion : ℕ → List ℕ → Type 0
NearItsProportion t ws = (k : ℕ) → k < length ws
    → (slice_index (shares t ws) k * whole ws < t * slice_index (counted ws) k + whole ws)
    × (t * slice_index (counted ws) k < slice_index (shares t ws) k * whole ws + whole ws)

-- where the amount is at most C(n), no share exceeds its counted weight
abbrev pub WithinItsCountedWeight : ℕ → List ℕ → Type 0
WithinItsCountedWeight t ws = t ≤ whole ws → (k : ℕ) → k < length ws → slice_index (shares t ws) k ≤ slice_index (counted ws) k

-- where the amount is at most the sum of the weights as they are, no share exceeds its weight
abbrev pub WithinItsWeight : ℕ → List ℕ → Type 0
WithinItsWeight t ws = t ≤ sum ws → (k : ℕ) → k < length ws → slice_index (shares t ws) k ≤ slice_index ws k

-- two rows of equal weight differ by 1 at most
abbrev pub AlikeByEqualWeight : ℕ → List ℕ → Type 0
AlikeByEqualWeight t ws = (i j : ℕ) → i < length ws → j < length ws → slice_index ws i ≡ slice_index ws j
    → slice_index (shares t ws) i ≤ slice_index (shares t ws) j + 1

-- a row of weight 0 among rows that are not all 0 receives 0
abbrev pub NothingByWeight0 : ℕ → List ℕ → Type 0
NothingByWeight0 t ws = 0 < sum ws → (k : ℕ) → k < length ws → slice_index ws k ≡ 0 → slice_index (shares t ws) k ≡ 0

pub record Fair (t : ℕ) (ws : List ℕ) : Type 0 where
  pub rounded : IsBetweenRoundedSums t ws
  pub each : OneForEachRow t ws
  pub adds : AddsToTheAmount t ws
  pub near : NearItsProportion t ws
  pub counted_within : WithinItsCountedWeight t ws
  pub within : WithinItsWeight t ws
  pub alike : AlikeByEqualWeight t ws
  pub nothing : NothingByWeight0 t ws

abbrev pub SomeRow : List ℕ → Type 0
SomeRow ws = 0 < length ws

-- an amount is shared over rows, each share over the rows below its row, and each of those shares over the rows below
-- that one: no cent is lost, where no row is without rows below it
abbrev pub ThreeLevelsAddToTheAmount : Type 0
ThreeLevelsAddToTheAmount = (t : ℕ) (ws : List ℕ) (vs us : List (List ℕ))
    → SomeRow ws
    → length vs ≡ length ws → AllByRecursion SomeRow vs
    → length us ≡ sum (map length vs) → AllByRecursion SomeRow us
    → sum (shared_on (shared_on (shares t ws) vs) us) ≡ t

abbrev pub Figures : Type 0
Figures = (shares 1000 (5000 ∷ 2785 ∷ 2215 ∷ []) ≡ 500 ∷ 278 ∷ 222 ∷ [])
    × (shares 101 (5000 ∷ 5000 ∷ []) ≡ 50 ∷ 51 ∷ [])
    × (shares 5 (0 ∷ 0 ∷ []) ≡ 2 ∷ 3 ∷ [])
    × (shares 0 (7 ∷ 0 ∷ []) ≡ 0 ∷ 0 ∷ [])
    × (shares 100 (1 ∷ 1 ∷ 1 ∷ []) ≡ 33 ∷ 33 ∷ 34 ∷ [])
