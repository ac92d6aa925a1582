use Rattle.std.proofs.Common.{◌≡◌, ◌≢◌, ℕ, refl, ◌-◌, ◌*◌, ◌%◌, ◌^◌, ◌≤◌, ◌||◌, eqb, bit_or, w32, ap, inl, inr, arith}
use Rattle.std.proofs.lemmas.Bool.{cases_eq, eq-eqb, ne_eqb}
use Rattle.std.proofs.lemmas.Nat.Bits.{bit_at_set_same, bit_at_set_other}
use Rattle.hourbook.specs.SettledIn.{settled_in}
use Rattle.hourbook.proofs.book.settled.SettledRegions.with.Goals as goal

one_more : (bits r k : ℕ) → 1 ≤ r → r ≤ 32 → 1 ≤ k → settled_in (bit_or bits (1 * 2 ^ (r - 1) % 2 ^ 32)) k ≡ (eqb k r || settled_in bits k)
one_more bits r k low high one =
    elim (cases_eq k r) [
      | inl same ↦
          rw (same, eq-eqb r r refl) (ap (λ n. eqb n 1) (bit_at_set_same w32 bits (r - 1) (omega arith)))
      | inr other ↦
          let ne : k - 1 ≢ r - 1 = λ e. other (omega arith) in
          rw (ne_eqb k r other) (ap (λ n. eqb n 1) (bit_at_set_other w32 bits (r - 1) (omega arith) (k - 1) ne))
    ]

pub returns : goal.returns
returns c = λ k low high.
    let r = c.get.ensures in
    rw (c.self.view_is, ← r.value) (one_more _ c.get.result k r.named r.known low)
