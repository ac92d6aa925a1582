-- The keys of a leg's owners.
use Rattle.std.specs.Prelude.{sum, ℕ, List, map}
use Rattle.hourbook.specs.declared.hourfile.owner.OwnerRow.{OwnerRow}

abbrev pub keys : List OwnerRow → List ℕ
keys rows = map (λ (r : OwnerRow). r.key) rows

abbrev pub key_sum : List OwnerRow → ℕ
key_sum rows = sum (keys rows)
