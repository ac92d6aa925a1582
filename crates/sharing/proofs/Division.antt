-- Quotients by one divisor, and what lies part two of them. Assumes nothing.
use Rattle.std.proofs.Common.{◌≡◌, ℕ, ◌+◌, ◌-◌, ◌*◌, ◌/◌, ◌<◌, ◌≤◌, ap, ◌∙◌, mul-le-mul_right, mul_comm, add-mul, lt_of_mul-lt-mul_right, mul-le-mul_left, one-mul, mul-add, div-mul-le_self, mul-div_cancel, arith}
use native.Mathlib.Nat.{lt-div-mul-add}
use Rattle.std.proofs.lemmas.Nat.{le-div}
use Rattle.sharing.specs.Shares.{part}

-- a larger number holds the divisor at least as often
pub div_mono : (a b n : ℕ) → 0 < n → a ≤ b → a / n ≤ b / n
div_mono a b n pos le = le-div (a / n) b n pos (omega (arith, div-mul-le_self a n))

pub reach_mono : (t n a b : ℕ) → 0 < n → a ≤ b → t * a / n ≤ t * b / n
reach_mono t n a b pos le = div_mono (t * a) (t * b) n pos (mul-le-mul_left t le)

-- two spans that meet are one
pub part_join : (t n a b c : ℕ) → 0 < n → a ≤ b → b ≤ c → part t n a b + part t n b c ≡ part t n a c
part_join t n a b c pos p q =
    omega (arith, reach_mono t n a b pos p, reach_mono t n b c pos q)

pub part_near : (t n a w : ℕ) → 0 < n → (part t n a (a + w) * n < t * w + n) × (t * w < part t n a (a + w) * n + n)
part_near t n a w pos =
    let qa : ℕ = t * a / n in
    let qb : ℕ = t * (a + w) / n in
    let s : ℕ = qb - qa in
    let low : qa ≤ qb = reach_mono t n a (a + w) pos (omega arith) in
    let split : qb * n ≡ qa * n + s * n = ap (λ q. q * n) (let e : qb ≡ qa + s = omega arith in e) ∙ add-mul qa s n in
    let a_le = div-mul-le_self (t * a) n in
    let a_lt = lt-div-mul-add {a = t * a} pos in
    let b_le = div-mul-le_self (t * (a + w)) n in
    let b_lt = lt-div-mul-add {a = t * (a + w)} pos in
    let spread = mul-add t a w in
    (omega arith, omega arith)

pub part_within : (t n a w : ℕ) → 0 < n → t ≤ n → part t n a (a + w) ≤ w
part_within t n a w pos le =
    let near = (part_near t n a w pos).0 in
    let most : t * w ≤ n * w = mul-le-mul_right w le in
    let under : part t n a (a + w) * n < (w + 1) * n = omega (arith, add-mul w 1 n, mul_comm n w, one-mul n) in
    omega (arith, lt_of_mul-lt-mul_right n under)

-- no row gets more than the amount
pub part_small : (t n a b : ℕ) → 0 < n → b ≤ n → part t n a b ≤ t
part_small t n a b pos le =
    let top = reach_mono t n b n pos le in
    let all : t * n / n ≡ t = mul-div_cancel t pos in
    omega arith
