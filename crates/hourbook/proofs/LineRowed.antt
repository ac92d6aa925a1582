-- Lines as rows to share over. Assumes nothing.
use Rattle.std.proofs.Common.{◌≡◌, ℕ, ◌+◌, ◌<◌, List, [], ◌∷◌, map, length, get_or, drop, set, refl, ap, sym, ◌∙◌, arith}
use Rattle.std.specs.List.{enumerate_from}
use Rattle.std.proofs.lemmas.List.{at_drop_more, get_or-map, length-map}
use Rattle.std.proofs.lemmas.List.FromFn.{length-enumerate_from, get_or-enumerate_from}
use Rattle.sharing.specs.Writes.{written}
use Rattle.sharing.proofs.Writing.{written-set}
use Rattle.hourbook.specs.declared.settlement.line_row.LineRow.{LineRow}
use Rattle.hourbook.specs.LineRows.{line_rows_from}

pub length_rows : (n : ℕ) (ws : List ℕ) → length (line_rows_from n ws) ≡ length ws
length_rows n ws = length-map (enumerate_from n ws) _ ∙ length-enumerate_from n ws

pub rows_weigh : (n : ℕ) (ws : List ℕ) → map (λ (r : LineRow). r.weight) (line_rows_from n ws) ≡ ws
rows_weigh n [] = refl
rows_weigh n (w ∷ ws) = ap (λ l. w ∷ l) (rows_weigh (n + 1) ws)

pub row_at : (n : ℕ) (ws : List ℕ) (k : ℕ) (d : LineRow) → k < length ws → get_or (line_rows_from n ws) k d ≡ record { number = n + k; weight = get_or ws k 0 }
row_at n ws k d h =
    get_or-map (λ (p : ℕ × ℕ). record { number = p.0; weight = p.1 }) (enumerate_from n ws) k (0, 0) d (omega (arith, length-enumerate_from n ws))
    ∙ ap (λ (p : ℕ × ℕ). record { number = p.0; weight = p.1 }) (get_or-enumerate_from n ws k (0, 0) h)

-- one more of xs is written, at the place after those that are
pub fill_next : {X : Type 0} (xs out : List X) (i k : ℕ) (v d : X) → k ≡ i → i < length xs → i < length out → v ≡ get_or xs i d → written (set out k v) (i + 1) (drop (i + 1) xs) ≡ written out i (drop i xs)
fill_next xs out i k v d here h room e =
    ap (λ j. written (set out j v) (i + 1) (drop (i + 1) xs)) here
    ∙ (written-set out i v (drop (i + 1) xs) room
    ∙ (ap (λ y. written out i (y ∷ drop (i + 1) xs)) e ∙ sym (at_drop_more (written out i) xs i d h)))
