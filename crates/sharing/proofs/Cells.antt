-- What stands in memory of a sharing. Assumes nothing.
use Rattle.std.proofs.Common.{◌≡◌, ℕ, suc, ◌+◌, ◌≤◌, List, [], ◌∷◌, map, length, pos, Ok, refl, ap, arith}
use Rattle.std.proofs.lemmas.Bool.Decides.{nat_tests}
use Rattle.sharing.specs.Writes.{cells}
use Rattle.sharing.specs.Answers.{judged}

-- cells that are the shares
pub cells_plain : {R : Type 0} (rs : List R) (ss : List ℕ) → length ss ≤ length rs → cells (λ _ s. pos s) rs ss ≡ map pos ss
cells_plain [] [] h = refl
cells_plain [] (s ∷ ss) h = absurd (omega arith)
cells_plain (r ∷ rs) [] h = refl
cells_plain (r ∷ rs) (s ∷ ss) h = ap (λ l. pos s ∷ l) (cells_plain rs ss (omega arith))

pub length-cells : {R X : Type 0} (cell : R → ℕ → X) (rs : List R) (ss : List ℕ) → length ss ≡ length rs → length (cells cell rs ss) ≡ length rs
length-cells cell [] ss h = refl
length-cells cell (r ∷ rs) [] h = absurd (omega arith)
length-cells cell (r ∷ rs) (s ∷ ss) h = ap suc (length-cells cell rs ss (omega arith))

-- nothing speaks against a sharing within the limits
pub accepted : (t n c size at : ℕ) → at + n ≤ size → t ≤ 2000000000 → c ≤ 4000000000 → judged t n c size at ≡ Ok tt
accepted t n c size at room small light = grind (arith, nat_tests)
