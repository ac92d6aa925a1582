-- A record in bytes: its letter, then its numbers, highest byte first.
use Rattle.std.specs.Prelude.{◌≡◌, ℕ, ◌/◌, ◌%◌, ◌≤◌, List, [], ◌∷◌, ◌++◌, length, take, ℤ}
use Rattle.std.specs.Int.{w16, w32}
use Rattle.std.proofs.Common.{of_z}
use Rattle.hourbook.specs.declared.hourfile.«record».Record.{Record}
use Rattle.hourbook.specs.declared.hourfile.«record».Record.TheVariants.{Header, Zone, Border, Leg, Factor, Loss, Owner, End}

abbrev pub two : ℕ → List ℕ
two n = n / 256 % 256 ∷ n % 256 ∷ []

abbrev pub four : ℕ → List ℕ
four n = n / 16777216 % 256 ∷ n / 65536 % 256 ∷ n / 256 % 256 ∷ n % 256 ∷ []

-- two's complement
abbrev pub signed_two : ℤ → List ℕ
signed_two z = two (of_z w16 z)

abbrev pub signed_four : ℤ → List ℕ
signed_four z = four (of_z w32 z)

abbrev pub encoded : Record → List ℕ
encoded (Header x) = 72 ∷ (four x.hour ++ x.region ∷ x.method ∷ [])
encoded (Zone x) = 90 ∷ (signed_four x.price ++ signed_four x.position)
encoded (Border x) = 66 ∷ x.near ∷ x.far ∷ signed_four x.capacity
encoded (Leg x) = 76 ∷ x.line ∷ two x.contribution
encoded (Factor x) = 80 ∷ x.leg ∷ x.zone ∷ signed_two x.factor
encoded (Loss x) = 78 ∷ x.line ∷ two x.loss
encoded (Owner x) = 79 ∷ x.leg ∷ x.owner ∷ two x.key
encoded End = 69 ∷ []

-- the first bytes are this record
abbrev pub Begins : List ℕ → Record → Type 0
Begins bytes r = (length (encoded r) ≤ length bytes) × (take (length (encoded r)) bytes ≡ encoded r)
