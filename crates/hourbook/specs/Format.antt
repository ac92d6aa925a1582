-- Where a record stands whole.
use Rattle.std.specs.Prelude.{ℕ, ◌<◌, ◌≤◌, if◌then◌else◌, List, length, ◌==◌, slice_index}

-- the length of a record by its letter, of H, Z, B, L, P, N, O and E, and 0 where none begins so
abbrev pub size_of : ℕ → ℕ
size_of letter =
    if letter == 72 then 7
    else if letter == 90 then 9
    else if letter == 66 then 7
    else if letter == 76 then 4
    else if letter == 80 then 5
    else if letter == 78 then 4
    else if letter == 79 then 5
    else if letter == 69 then 1
    else 0

abbrev pub size : List ℕ → ℕ
size bytes = size_of (slice_index bytes 0)

-- the bytes begin with a whole record
abbrev pub Whole : List ℕ → Type 0
Whole bytes = (0 < length bytes) × (0 < size bytes) × (size bytes ≤ length bytes)
