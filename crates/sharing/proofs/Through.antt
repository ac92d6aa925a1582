-- Amounts that are dealt on add to what they were. Assumes nothing.
use Rattle.std.proofs.Common.{sum, ◌≡◌, ℕ, ◌≤◌, List, [], ◌∷◌, map, length, refl, ◌∙◌, arith}
use Rattle.std.specs.List.{AllByRecursion}
use Rattle.std.proofs.lemmas.List.{length-append}
use Rattle.std.proofs.lemmas.List.Sums.{sum_by-append}
use Rattle.sharing.proofs.Totals.{sum-cons}
use Rattle.sharing.specs.Shares.{shares}
use Rattle.sharing.specs.Levels.{dealt, shared_on}
use Rattle.sharing.specs.Laws.{SomeRow, ThreeLevelsAddToTheAmount}
use Rattle.sharing.proofs.Lawful.{adds, length-shares}

pub dealt_none : {X Y : Type 0} (deal : ℕ → X → List Y) (ts : List ℕ) → dealt deal ts [] ≡ []
dealt_none deal [] = refl
dealt_none deal (t ∷ ts) = refl

-- where each deal has as many rows as its x, all have as many as all xs
pub length-dealt : {X Y : Type 0} (deal : ℕ → X → List Y) (rows : X → ℕ) → ((t : ℕ) (x : X) → length (deal t x) ≡ rows x) → (ts : List ℕ) (xs : List X) → length xs ≤ length ts → length (dealt deal ts xs) ≡ sum (map rows xs)
length-dealt deal rows each [] [] h = refl
length-dealt deal rows each [] (x ∷ xs) h = absurd (omega arith)
length-dealt deal rows each (t ∷ ts) [] h = refl
length-dealt deal rows each (t ∷ ts) (x ∷ xs) h =
    omega (arith, length-append (deal t x) (dealt deal ts xs), each t x, length-dealt deal rows each ts xs (omega arith), sum-cons (rows x) (map rows xs))

-- where every x has a row, the shares add to the amounts that were shared on
pub total-shared_on : (ts : List ℕ) (vs : List (List ℕ)) → length vs ≡ length ts → AllByRecursion SomeRow vs → sum (shared_on ts vs) ≡ sum ts
total-shared_on [] [] e h = refl
total-shared_on [] (v ∷ vs) e h = absurd (omega arith)
total-shared_on (t ∷ ts) [] e h = absurd (omega arith)
total-shared_on (t ∷ ts) (v ∷ vs) e h =
    omega (arith, sum_by-append (λ n. n) (shares t v) (shared_on ts vs), adds t v h.0, total-shared_on ts vs (omega arith) h.1, sum-cons t ts)

pub three_levels : ThreeLevelsAddToTheAmount
three_levels t ws vs us some as_many rows as_many_below rows_below =
    let ts : List ℕ = shares t ws in
    let one = length-shares t ws in
    let two = length-dealt shares length (λ a v. length-shares a v) ts vs (omega arith) in
    total-shared_on (shared_on ts vs) us (omega arith) rows_below
    ∙ (total-shared_on ts vs (omega arith) rows ∙ adds t ws some)
