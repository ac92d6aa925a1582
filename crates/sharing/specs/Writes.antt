-- Memory with a list written at a place. Assumes nothing.
use Rattle.std.specs.Prelude.{ℕ, ◌+◌, List, [], ◌∷◌, ◌++◌, length, take, drop}

-- the memory m, with xs from the place `at` on
abbrev pub written : {X : Type 0} → List X → ℕ → List X → List X
written m at xs = take at m ++ (xs ++ drop (at + length xs) m)

-- what is kept of each row and its share
abbrev pub cells : {R X : Type 0} → (R → ℕ → X) → List R → List ℕ → List X
cells cell [] ss = []
cells cell (r ∷ rs) [] = []
cells cell (r ∷ rs) (s ∷ ss) = cell r s ∷ cells cell rs ss
