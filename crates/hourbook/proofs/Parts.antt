-- What stands in work memory. Assumes nothing.
use Rattle.std.proofs.Common.{sum, ◌≡◌, ℕ, ◌+◌, ◌-◌, ◌*◌, ◌≤◌, List, [], ◌∷◌, ◌++◌, map, length, take, drop, ℤ, pos, negsuc, nat_abs, ◌≤ℤ◌, vec_items, sym, refl, ap, ◌∙◌, arith}
use Rattle.std.specs.Int.{int_max}
use Rattle.std.proofs.lemmas.Int.{int_max_is, ints}
use Rattle.sharing.proofs.Totals.{sum-cons}
use Rattle.sharing.proofs.Writing.{written-append}
use Rattle.hourbook.specs.declared.hourfile.owner.Owner.{Owner}
use Rattle.hourbook.specs.declared.hourfile.owned_line.OwnedLine.{OwnedLine}
use Rattle.hourbook.specs.declared.entry.credit.Origin.{Origin}
use Rattle.hourbook.specs.Deals.{equal_deal}
use Rattle.hourbook.specs.declared.hourfile.ownership.Ownership.{Ownership}
use Rattle.hourbook.specs.OwnerRows.{rows_of}
use Rattle.hourbook.specs.Settled.{paid, credit, needed}
use Rattle.std.proofs.lemmas.List.{append_assoc, take_at, drop_at, map-append, length-map}
use Rattle.sharing.specs.Writes.{written}

pub abs_all : (ss : List ℕ) → map nat_abs (map pos ss) ≡ ss
abs_all [] = refl
abs_all (s ∷ ss) = ap (λ l. s ∷ l) (abs_all ss)

-- the second part of what was written
pub second : (m : List ℤ) (ws ss : List ℕ) (n : ℕ) → length ws ≡ n → length ss ≡ n → take (2 * n - n) (drop n (written m 0 (map pos (ws ++ ss)))) ≡ map pos ss
second m ws ss n e f =
    let p : List ℤ = map pos ws in
    let q : List ℤ = map pos ss in
    let rest : List ℤ = drop (0 + length (map pos (ws ++ ss))) m in
    let whole : written m 0 (map pos (ws ++ ss)) ≡ p ++ (q ++ rest) = ap (λ l. l ++ rest) (map-append pos ws ss) ∙ append_assoc p q rest in
    let two : 2 * n - n ≡ n = omega arith in
    ap (λ k. take k (drop n (written m 0 (map pos (ws ++ ss))))) two
    ∙ (ap (λ l. take n (drop n l)) whole
    ∙ (ap (take n) (drop_at p (q ++ rest) n (length-map ws pos ∙ e))
    ∙ take_at q rest n (length-map ss pos ∙ f)))

pub sum-ones : {X : Type 0} (xs : List X) → sum (map (λ (x : X). 1) xs) ≡ length xs
sum-ones [] = refl
sum-ones (x ∷ xs) = omega (arith, sum-ones xs, sum-cons 1 (map (λ _. 1) xs))

-- weights, and then shares
pub both : (m : List ℤ) (ws ss : List ℕ) (n : ℕ) → length ws ≡ n → n ≤ length m → written (written m 0 (map pos ws)) n (map pos ss) ≡ written m 0 (map pos (ws ++ ss))
both m ws ss n e h =
    let len = length-map ws pos in
    let at : 0 + length (map pos ws) ≡ n = omega arith in
    ap (λ k. written (written m 0 (map pos ws)) k (map pos ss)) (sym at)
    ∙ (written-append m 0 (map pos ws) (map pos ss) (omega arith)
    ∙ ap (written m 0) (sym (map-append pos ws ss)))

pub loss : (origin : Origin) (z : ℤ) (n : ℕ) (ss : List ℕ) (lines : List OwnedLine) (owners : List Owner) → z ≤ℤ negsuc 0 → n ≡ nat_abs z → equal_deal origin n owners ≡ paid origin z ss lines owners
loss origin (pos k) n ss lines owners h e = absurd (omega (arith, ints))
loss origin (negsuc k) n ss lines owners h e = ap (λ t. equal_deal origin t owners) e

pub credit_small : (z : ℤ) → credit z ≤ nat_abs z
credit_small (pos k) = omega arith
credit_small (negsuc k) = omega arith

pub credit_max : (z m : ℤ) → m ≡ int_max z (pos 0) → nat_abs m ≡ credit z
credit_max (pos k) m e = ap nat_abs e ∙ omega (arith, ints, int_max_is (pos k) (pos 0))
credit_max (negsuc k) m e = ap nat_abs e

-- how many entries an income of either sign takes
pub needed_loss : (z : ℤ) (table : Ownership) → z ≤ℤ negsuc 0 → needed z table ≡ length (vec_items table.owners)
needed_loss (pos k) table h = absurd (omega (arith, ints))
needed_loss (negsuc k) table h = refl

pub needed_income : (z : ℤ) (table : Ownership) → pos 0 ≤ℤ z → needed z table ≡ rows_of (vec_items table.lines)
needed_income (pos k) table h = refl
needed_income (negsuc k) table h = absurd (omega (arith, ints))
