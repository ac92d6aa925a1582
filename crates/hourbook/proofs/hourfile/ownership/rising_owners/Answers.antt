use Rattle.std.proofs.Common.{◌≡◌, ℕ, ◌+◌, Bool, cond, List, [], ◌∷◌, ◌++◌, map, sym, refl, ap, ◌∙◌, arith}
use Rattle.std.specs.List.{filter, range_with_len}
use Rattle.std.proofs.lemmas.List.{length-append, map-append, map-id, append-nil}
use Rattle.std.proofs.lemmas.List.FromFn.{filter_of_map_range_with_len_more}
use Rattle.hourbook.specs.declared.hourfile.owned_line.OwnedLine.{OwnedLine}
use Rattle.hourbook.specs.Rising.{owns, owners_below, number_of}
use Rattle.hourbook.proofs.hourfile.ownership.rising_owners.Goals as goal
use Rattle.hourbook.proofs.hourfile.ownership.rising_owners.Goals.{then-is_owner, else-is_owner}

below_none : (lines : List OwnedLine) → [] ≡ owners_below lines 0
unfolding owners_below
below_none lines = refl

-- one more number is looked at
below_more : (lines : List OwnedLine) (k : ℕ) → owners_below lines (k + 1) ≡ owners_below lines k ++ cond (owns k lines) (k ∷ []) []
unfolding owners_below
below_more lines k =
    let p : ℕ → Bool = λ n. owns n lines in
    ap (filter p) (sym (map-id (range_with_len 0 (k + 1))))
    ∙ (filter_of_map_range_with_len_more p (λ n. n) 0 k k (omega arith)
    ∙ ap (λ ns. filter p ns ++ cond (p k) (k ∷ []) []) (map-id (range_with_len 0 k)))

pub loop-number-init : goal.loop-number-init
loop-number-init c = rw c.new-owners.ensures (omega arith, below_none c.args.lines.now)

pub loop-number-preserved : goal.loop-number-preserved
loop-number-preserved c =
    let lines = c.args.lines.now in
    let k = c.loop-number.number in
    let so = c.loop-number.invariant in
    let before = c.loop-number.owners.items in
    elim c.if-is_owner.branch [
      | then-is_owner w ↦
          rw (w.owners-is, w.push.ensures.items) (
            omega (arith, so.0, length-append before (record { number = k } ∷ [])),
            map-append number_of before (record { number = k } ∷ [])
                ∙ (ap (λ ns. ns ++ (k ∷ [])) so.1
                ∙ (ap (λ b. owners_below lines k ++ cond b (k ∷ []) []) w.if-is_owner.ensures ∙ sym (below_more lines k))),
          )
      | else-is_owner w ↦
          rw w.owners-is (
            omega (arith, so.0),
            so.1
                ∙ (sym (append-nil (owners_below lines k))
                ∙ (ap (λ b. owners_below lines k ++ cond b (k ∷ []) []) w.if-is_owner.ensures ∙ sym (below_more lines k))),
          )
    ]
