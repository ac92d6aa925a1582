-- A loop that deals amount after amount into memory: what stands at a turn, one turn, and the end. Assumes nothing.
use Rattle.std.proofs.Common.{sum, ◌≡◌, ℕ, ◌+◌, ◌≤◌, ◌-◌, ◌<◌, ◌⊎◌, List, [], ◌∷◌, ◌++◌, length, take, drop, vec_items, sym, refl, inl, inr, ap, ◌∙◌, arith}
use Rattle.std.proofs.lemmas.List.{length-append, length-map}
use borrow.Rule.Slice.PartMut.{put_mid}
use Rattle.sharing.specs.Shares.{shares}
use Rattle.sharing.specs.Writes.{written}
use Rattle.sharing.specs.Levels.{dealt}
use Rattle.sharing.proofs.Totals.{sum-cons}
use Rattle.sharing.proofs.Lawful.{length-shares}
use Rattle.sharing.proofs.Through.{dealt_none, length-dealt}
use Rattle.sharing.proofs.Cells.{length-cells}
use Rattle.sharing.proofs.Writing.{written_none, written-append, length-written}
use Rattle.hourbook.specs.declared.hourfile.owned_leg.OwnedLeg.{OwnedLeg}
use Rattle.hourbook.specs.declared.hourfile.owned_line.OwnedLine.{OwnedLine}
use Rattle.hourbook.specs.Owners.{keys}
use Rattle.hourbook.specs.Rows.{credit_row, directed}
use Rattle.hourbook.specs.declared.entry.credit.Direction.TheVariants.{Received}
use Rattle.hourbook.specs.declared.entry.credit.Origin.{Origin}
use Rattle.hourbook.specs.Legs.{contributions}
use Rattle.hourbook.specs.Deals.{leg_deal, line_deal}
use Rattle.hourbook.proofs.Rest.{rest_room, written_rest}
use Rattle.hourbook.specs.OwnerRows.{leg_rows, line_rows, rows_of}

-- the amounts ts are still to be dealt over the xs. With them `all` is dealt, of which `count` places are written to
-- what was `before`.
pub record Dealing {X Y : Type 0} (deal : ℕ → X → List Y) (ts : List ℕ) (xs : List X) (before all : List Y) (count : ℕ) (out : List Y) : Type 0 where
  pub long : length xs ≤ length ts
  pub small : sum ts ≤ 2000000000
  pub reach : count + length (dealt deal ts xs) ≡ length all
  pub room : length all ≤ length out
  pub memory : written out count (dealt deal ts xs) ≡ written before 0 all

pub dealing_start : {X Y : Type 0} (deal : ℕ → X → List Y) (ts : List ℕ) (xs : List X) (before : List Y) → length xs ≤ length ts → sum ts ≤ 2000000000 → length (dealt deal ts xs) ≤ length before
    → Dealing deal ts xs before (dealt deal ts xs) 0 before
dealing_start deal ts xs before long small room = record { long = long; small = small; reach = omega arith; room = room; memory = refl }

-- one turn: the amount t is dealt over x, and what is left of both goes on
module _ {X Y : Type 0} {deal : ℕ → X → List Y} {before all : List Y} {x : X} {ts ts_left : List ℕ} {xs xs_left : List X} {count : ℕ} {out : List Y} (t : ℕ) (s : Dealing deal ts xs before all count out) (first : xs ≡ x ∷ xs_left) (second : ts ≡ t ∷ ts_left) where
  step : dealt deal ts xs ≡ deal t x ++ dealt deal ts_left xs_left
  step = ap (λ l. dealt deal l xs) second ∙ ap (dealt deal (t ∷ ts_left)) first

  longs : length (dealt deal ts xs) ≡ length (deal t x) + length (dealt deal ts_left xs_left)
  longs = ap length step ∙ length-append (deal t x) (dealt deal ts_left xs_left)

  room : count + length (deal t x) ≤ length out
  room = omega (arith, longs, s.reach, s.room)

  pub dealing_small : t ≤ 2000000000
  dealing_small = omega (arith, ap sum second, sum-cons t ts_left, s.small)

  pub dealing_room : length (deal t x) ≤ length (take (length out - count) (drop count out))
  dealing_room = rest_room out count (length (deal t x)) room

  pub dealing_next : (n : ℕ) (after : List Y) → n ≡ length (deal t x) → after ≡ written (take (length out - count) (drop count out)) 0 (deal t x)
      → Dealing deal ts_left xs_left before all (count + n) (put_mid count (length out - count) out after)
  dealing_next n after counted memory =
      let here : put_mid count (length out - count) out after ≡ written out count (deal t x) = written_rest out count (deal t x) after (omega (arith, room)) memory in
      rw (counted, here) (record {
        long = omega (arith, s.long, ap length first, ap length second);
        small = omega (arith, s.small, ap sum second, sum-cons t ts_left);
        reach = omega (arith, longs, s.reach);
        room = omega (arith, s.room, length-written out count (deal t x) room);
        memory = written-append out count (deal t x) (dealt deal ts_left xs_left) room ∙ (ap (written out count) (sym step) ∙ s.memory);
      })

pub dealing_end : {X Y : Type 0} {deal : ℕ → X → List Y} {before all : List Y} (ts : List ℕ) (xs : List X) {count : ℕ} {out : List Y} → Dealing deal ts xs before all count out → (xs ≡ []) ⊎ (ts ≡ [])
    → (out ≡ written before 0 all) × (count ≡ length all)
dealing_end {deal = deal} ts [] {count = count} {out = out} s e = (
  sym (written_none out count) ∙ (ap (written out count) (sym (dealt_none deal ts)) ∙ s.memory),
  omega (arith, ap length (dealt_none deal ts), s.reach),
)
dealing_end [] (x ∷ xs) s e = absurd (omega (arith, s.long))
dealing_end (t ∷ ts) (x ∷ xs) s e = absurd (elim e [ inl f ↦ cc | inr f ↦ cc ])

pub some_rows : (ws : List ℕ) → 0 < sum ws → 0 < length ws
some_rows [] h = omega arith
some_rows (w ∷ ws) h = omega arith

pub length_leg : (origin : Origin) (line t : ℕ) (leg : OwnedLeg) → length (leg_deal origin line t leg) ≡ leg_rows leg
length_leg origin line t leg =
    let rows = vec_items leg.owners in
    length-cells (λ r s. credit_row origin line leg.number r.owner (directed Received s)) rows (shares t (keys rows)) (length-shares t (keys rows) ∙ length-map rows (λ r. r.key))

pub length_line : (origin : Origin) (t : ℕ) (line : OwnedLine) → length (line_deal origin t line) ≡ line_rows line
length_line origin t line =
    let legs = vec_items line.legs in
    length-dealt (leg_deal origin line.number) leg_rows (length_leg origin line.number) (shares t (contributions legs)) legs (omega (arith, length-shares t (contributions legs), length-map legs (λ r. r.contribution)))

pub length_lines : (origin : Origin) (ts : List ℕ) (lines : List OwnedLine) → length lines ≤ length ts → length (dealt (line_deal origin) ts lines) ≡ rows_of lines
length_lines origin ts lines h = length-dealt (line_deal origin) line_rows (length_line origin) ts lines h
