-- The counted weights: their sum, and the one at a place. Assumes nothing.
use Rattle.std.proofs.Common.{sum, ◌≡◌, ℕ, zero, suc, ◌<◌, ◌≤◌, Bool, true, false, cond, eqb, leb, ◌⊎◌, Option, MatchOption, List, [], ◌∷◌, map, length, get_or, sym, refl, ap, ◌∙◌, inl, inr, arith}
use Rattle.std.proofs.lemmas.List.{get_or-map, length-map}
use Rattle.std.specs.Bool.{then_some}
use Rattle.std.proofs.lemmas.Bool.{ne_eqb}
use Rattle.std.proofs.lemmas.Bool.Decides.{leb_tells}
use Rattle.sharing.proofs.Totals.{sum-cons}
use Rattle.sharing.specs.Shares.{counts_as, counted, whole}
use Rattle.sharing.specs.Counts.{Counts, all_count, counting_of, counts_with}
use Rattle.sharing.specs.declared.counting.Counting.{Counting}
use Rattle.sharing.specs.declared.counting.Counting.TheVariants.{Equal, ByWeight}

ones_total : (ws : List ℕ) → sum (map (counts_as 0) ws) ≡ length ws
ones_total [] = refl
ones_total (w ∷ ws) = omega (arith, ones_total ws, sum-cons 1 (map (counts_as 0) ws))

pub counted_none : (ws : List ℕ) → sum ws ≡ 0 → sum (counted ws) ≡ length ws
counted_none ws e = ap (λ s. sum (map (counts_as s) ws)) e ∙ ones_total ws

kept_same : (s : ℕ) → eqb s 0 ≡ false → (ws : List ℕ) → map (counts_as s) ws ≡ ws
kept_same s e [] = refl
kept_same s e (w ∷ ws) =
    let here : counts_as s w ≡ w = ap (λ b. cond b 1 w) e in
    let rest = kept_same s e ws in
    cc

pub counted_some : (ws : List ℕ) → 0 < sum ws → counted ws ≡ ws
counted_some ws h = kept_same (sum ws) (ne_eqb (sum ws) 0 (λ e. omega arith)) ws

pub length-counted : (ws : List ℕ) → length (counted ws) ≡ length ws
length-counted ws = length-map ws (counts_as (sum ws))

pub counted_at : {X : Type 0} (f : X → ℕ) (xs : List X) (i : ℕ) (x : X) → i < length xs → x ≡ get_or xs i x → get_or (counted (map f xs)) i 0 ≡ counts_as (sum (map f xs)) (f x)
counted_at f xs i x h read =
    let s = sum (map f xs) in
    let long : i < length (map f xs) = rw length-map h in
    get_or-map (counts_as s) (map f xs) i 0 0 long ∙ ap (counts_as s) (get_or-map f xs i x 0 h ∙ ap f (sym read))

pub zero_or_more : (n : ℕ) → (n ≡ 0) ⊎ (0 < n)
zero_or_more zero = inl refl
zero_or_more (suc n) = inr (omega arith)

-- rows weigh something, as they are counted
pub counted_positive : (ws : List ℕ) → 0 < length ws → 0 < sum (counted ws)
counted_positive ws h = elim (zero_or_more (sum ws)) [
  | inl e ↦ omega (arith, counted_none ws e)
  | inr p ↦ omega (arith, ap sum (counted_some ws p))
]

-- the counted weight at a place, from the weight there
pub counted_weight : (ws : List ℕ) (k : ℕ) → k < length ws → get_or (counted ws) k 0 ≡ counts_as (sum ws) (get_or ws k 0)
counted_weight ws k h = get_or-map (counts_as (sum ws)) ws k 0 0 h

-- the sum of the counted weights, from the sum of the weights
pub whole_is : (ws : List ℕ) → whole ws ≡ cond (eqb (sum ws) 0) (length ws) (sum ws)
whole_is ws = elim (zero_or_more (sum ws)) [
  | inl e ↦ counted_none ws e ∙ sym (ap (λ s. cond (eqb s 0) (length ws) s) e)
  | inr p ↦ ap sum (counted_some ws p) ∙ sym (ap (λ b. cond b (length ws) (sum ws)) (ne_eqb (sum ws) 0 (λ e. omega arith)))
]

pub whole_from : (ws : List ℕ) (n rows : ℕ) → n ≡ sum ws → rows ≡ length ws → cond (eqb n 0) rows n ≡ whole ws
whole_from ws n rows e f = ap (λ s. cond (eqb s 0) rows s) e ∙ (ap (λ m. cond (eqb (sum ws) 0) m (sum ws)) f ∙ sym (whole_is ws))

-- weights that pass the limit count as they are
pub whole_heavy : (ws : List ℕ) → 4000000000 < sum ws → 4000000000 < whole ws
whole_heavy ws h = omega (arith, ap sum (counted_some ws (omega arith)))

-- the counted weights keep the limit where the weights and their number do
pub whole_light : (ws : List ℕ) → sum ws ≤ 4000000000 → length ws ≤ 4000000000 → whole ws ≤ 4000000000
whole_light ws light few = elim (zero_or_more (sum ws)) [
  | inl e ↦ omega (arith, counted_none ws e)
  | inr p ↦ omega (arith, ap sum (counted_some ws p))
]

all_count-cond : (b : Bool) (rows n : ℕ) → all_count (cond b (Equal rows) (ByWeight n)) ≡ cond b rows n
all_count-cond true rows n = refl
all_count-cond false rows n = refl

counts_with-cond : (b : Bool) (rows n w : ℕ) → counts_with (cond b (Equal rows) (ByWeight n)) w ≡ cond b 1 w
counts_with-cond true rows n w = refl
counts_with-cond false rows n w = refl

module _ (ws : List ℕ) (n rows : ℕ) (is : n ≡ sum ws) (as_many : rows ≡ length ws) where
  pub counting_sum : all_count (counting_of n rows) ≡ whole ws
  counting_sum = all_count-cond (eqb n 0) rows n ∙ whole_from ws n rows is as_many

  pub counts : all_count (counting_of n rows) ≤ 4000000000 → Counts ws (counting_of n rows)
  counts light = record {
    each = λ w. counts_with-cond (eqb n 0) rows n w ∙ ap (λ s. counts_as s w) is;
    all = counting_sum;
    light = light;
  }

  -- how the rows count, or none where they pass the limit
  pub counted_within : (r : Option Counting) → r ≡ then_some (leb (all_count (counting_of n rows)) 4000000000) (counting_of n rows) → MatchOption r (4000000000 < whole ws) (Counts ws)
  counted_within r e = rw e (elim (leb_tells (all_count (counting_of n rows)) 4000000000) [
    | inl h ↦ rw h.0 (counts h.1)
    | inr h ↦ rw h.0 (omega (arith, counting_sum))
  ])
