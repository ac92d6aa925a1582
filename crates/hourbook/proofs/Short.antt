-- How short a statement is. Assumes nothing.
use Rattle.std.proofs.Common.{ℕ, suc, ◌+◌, ◌*◌, ◌^◌, ◌<◌, ◌≤◌, List, [], ◌∷◌, ◌++◌, length, get_or, arith, ℤ, pos, sym, ◌≡◌, w32, w64, SFits, nat_eq, Bool, true, false, cond}
use Rattle.std.specs.Fmt.{decimal, signed_decimal}
use Rattle.std.specs.List.{flat_map}
use Rattle.std.proofs.lemmas.Fmt.{length-decimal-le, length_signed_le}
use Rattle.std.proofs.lemmas.Int.{ints}
use Rattle.std.proofs.lemmas.List.{length-append}
use Rattle.hourbook.specs.Amounts.{read_amount}
use Rattle.hourbook.specs.Text.{fields_of, line_of}
use Rattle.hourbook.specs.declared.entry.row.Row.{Row}
use Rattle.hourbook.specs.Statements.{own, entry_line, owner_line, balance_line, statement_of, balance_of}
use Rattle.hourbook.proofs.Owns.{blank}

-- an entry's line
pub entry_short : (e : Row) → e.hour < 2 ^ 32 → e.region < 2 ^ 8 → e.line < 2 ^ 8 → e.leg < 2 ^ 8 → (amount : ℤ) → SFits w32 amount → amount ≡ read_amount e.amount → length (entry_line e) ≤ 37
unfolding line_of
entry_short e hour region line leg amount fits same =
    let a = fields_of (read_amount e.amount ∷ []) in
    let b = fields_of (pos e.leg ∷ read_amount e.amount ∷ []) in
    let c = fields_of (pos e.line ∷ pos e.leg ∷ read_amount e.amount ∷ []) in
    let d = fields_of (pos e.region ∷ pos e.line ∷ pos e.leg ∷ read_amount e.amount ∷ []) in
    let h0 : length (decimal e.hour) ≤ 10 = length-decimal-le 10 e.hour (omega arith) (omega arith) (omega arith) in
    let h1 : length (decimal e.region) ≤ 3 = length-decimal-le 3 e.region (omega arith) (omega arith) (omega arith) in
    let h2 : length (decimal e.line) ≤ 3 = length-decimal-le 3 e.line (omega arith) (omega arith) (omega arith) in
    let h3 : length (decimal e.leg) ≤ 3 = length-decimal-le 3 e.leg (omega arith) (omega arith) (omega arith) in
    let h4 : length (signed_decimal (read_amount e.amount)) ≤ 11 = rw (sym same) (length_signed_le 10 amount (omega (arith, ints)) (omega (arith, ints))) in
    omega (arith, h0, h1, h2, h3, h4, length-append (decimal e.hour) d, length-append (decimal e.region) c, length-append (decimal e.line) b, length-append (decimal e.leg) a, length-append (signed_decimal (read_amount e.amount)) (10 ∷ []))

-- one entry more, where it is the owner's
one_more : (b : Bool) (e : Row) (es : List Row) (n : ℕ) → length (entry_line e) ≤ 37 → length (flat_map entry_line es) ≤ n → length (flat_map entry_line (cond b (e ∷ es) es)) ≤ 37 + n
one_more true e es n line rest = omega (arith, line, rest, length-append (entry_line e) (flat_map entry_line es))
one_more false e es n line rest = omega (arith, rest)

-- the lines of the owner's entries, where no entry's line is longer
pub lines_short : (owner : ℕ) (es : List Row) → ((k : ℕ) → k < length es → length (entry_line (get_or es k blank)) ≤ 37) → length (flat_map entry_line (own owner es)) ≤ 37 * length es
lines_short owner [] short = omega arith
lines_short owner (e ∷ es) short =
    let rest = lines_short owner es (λ k h. short (suc k) (omega arith)) in
    omega (arith, one_more (nat_eq e.owner owner) e (own owner es) (37 * length es) (short 0 (omega arith)) rest)

-- all of it
pub statement_short : (owner : ℕ) (es : List Row) → (sum : ℤ) → owner < 2 ^ 8 → SFits w64 sum → sum ≡ balance_of (own owner es) → ((k : ℕ) → k < length es → length (entry_line (get_or es k blank)) ≤ 37) → length (statement_of owner (own owner es)) ≤ 37 * length es + 29
unfolding line_of
statement_short owner es sum small fits same short =
    let o : length (decimal owner) ≤ 3 = length-decimal-le 3 owner (omega arith) (omega arith) (omega arith) in
    let b : length (signed_decimal (balance_of (own owner es))) ≤ 20 = rw (sym same) (length_signed_le 19 sum (omega (arith, ints)) (omega (arith, ints))) in
    let lines = flat_map entry_line (own owner es) in
    omega (
      arith,
      o,
      b,
      lines_short owner es short,
      length-append (decimal owner) (10 ∷ []),
      length-append (signed_decimal (balance_of (own owner es))) (10 ∷ []),
      length-append (owner_line owner) (lines ++ balance_line (balance_of (own owner es))),
      length-append lines (balance_line (balance_of (own owner es))),
    )
