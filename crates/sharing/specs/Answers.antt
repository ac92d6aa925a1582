-- When a sharing is refused.
use Rattle.std.specs.Prelude.{ℕ, ◌+◌, Bool, if◌then◌else◌, List, [], ◌∷◌, Ok, Err, Result, nat_lt}
use Rattle.sharing.specs.declared.fault.SharingFault.{SharingFault}
use Rattle.sharing.specs.declared.fault.SharingFault.TheVariants.{Room, Limit}

-- the fault of the first reason that holds
abbrev pub first_of : List (Bool × SharingFault) → Result (Unit {0}) SharingFault
first_of [] = Ok tt
first_of (r ∷ rs) = if r.0 then Err r.1 else first_of rs

-- whether the amount t is shared over n rows whose counted weights add to c, into a memory of `size` places from the
-- place `at` on. With no rows, `at` may be as large as the size and no larger.
abbrev pub judged : ℕ → ℕ → ℕ → ℕ → ℕ → Result (Unit {0}) SharingFault
judged t n c size at = first_of (
    (nat_lt size (at + n), Room)
    ∷ (nat_lt 2000000000 t, Limit)
    ∷ (nat_lt 4000000000 c, Limit)
    ∷ [])

-- a result without its value
abbrev pub verdict : {X : Type 0} → Result X SharingFault → Result (Unit {0}) SharingFault
verdict (Ok x) = Ok tt
verdict (Err e) = Err e
