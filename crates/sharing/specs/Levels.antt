-- Sharing on from level to level. Assumes nothing.
use Rattle.std.specs.Prelude.{ℕ, List, [], ◌∷◌, ◌++◌}
use Rattle.sharing.specs.Shares.{shares}

-- each amount of ts is dealt by its x, and all are joined
abbrev pub dealt : {X Y : Type 0} → (ℕ → X → List Y) → List ℕ → List X → List Y
dealt deal [] xs = []
dealt deal (t ∷ ts) [] = []
dealt deal (t ∷ ts) (x ∷ xs) = deal t x ++ dealt deal ts xs

-- each amount of ts is shared over its own list of weights, and all shares are joined
abbrev pub shared_on : List ℕ → List (List ℕ) → List ℕ
shared_on ts vs = dealt shares ts vs
