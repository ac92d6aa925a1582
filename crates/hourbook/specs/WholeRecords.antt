-- All of some bytes as records, one after another.
use Rattle.std.specs.Prelude.{◌≡◌, ℕ, ◌<◌, List, [], ◌++◌, length, Some, None, Option, Ok, Err, Result}
use Rattle.hourbook.specs.declared.hourfile.«record».Record.{Record}
use Rattle.hourbook.specs.declared.hourfile.records.Cut.{Cut}
use Rattle.hourbook.specs.Encoding.{encoded}
use Rattle.hourbook.specs.Format.{Whole}

-- what stands in front of the bytes, and what is left of them: nothing at their end, the record whose encoding it is, or
-- a cut where bytes are left and no whole record stands in front
abbrev pub RecordOrCut : List ℕ → Option (Result Record Cut) → List ℕ → Type 0
RecordOrCut bytes None left = (bytes ≡ []) × (left ≡ [])
RecordOrCut bytes (Some (Ok x)) left = bytes ≡ encoded x ++ left
RecordOrCut bytes (Some (Err e)) left = (0 < length bytes) × (Whole bytes → ⊥) × (left ≡ [])
