-- What a pass over the records of an hour file finds.
use Rattle.std.specs.Prelude.{fold, ◌≡◌, ℕ, ◌+◌, ◌<◌, List, [], ◌∷◌, ◌++◌, length}
use Rattle.std.specs.List.{flat_map}
use Rattle.hourbook.specs.declared.hourfile.«record».Record.{Record}
use Rattle.hourbook.specs.declared.hourfile.fault.FileFault.{FileFault}
use Rattle.hourbook.specs.declared.hourfile.fault.FileFault.TheVariants.{Unread}
use Rattle.hourbook.specs.Encoding.{encoded}
use Rattle.hourbook.specs.Format.{Whole}

-- the bytes are the encodings of the records, one after another, and then rest
abbrev pub Reads : List ℕ → List Record → List ℕ → Type 0
Reads bytes rs rest = flat_map encoded rs ++ rest ≡ bytes

-- each record passes in the state that those before it lead to, from s on
abbrev pub AllInTurn : {S : Type 0} → (S → Record → Type 0) → (S → Record → S) → S → List Record → Type 0
AllInTurn passes after s [] = Unit {0}
AllInTurn passes after s (r ∷ rs) = passes s r × AllInTurn passes after (after s r) rs

-- the records that stand at the front of the bytes keep P, and no further record follows them
pub record Passed (P : List Record → Type 0) (bytes : List ℕ) : Type 0 where
  pub records : List Record
  pub rest : List ℕ
  pub reads : Reads bytes records rest
  pub ends : Whole rest → ⊥
  pub keeps : P records

-- record p, counted from 1, is the first that breaks P: P holds of the records before it, and not of them and it
pub record FirstOut (P : List Record → Type 0) (bytes : List ℕ) (p : ℕ) : Type 0 where
  pub before : List Record
  pub here : Record
  pub after : List ℕ
  pub reads : Reads bytes (before ++ (here ∷ [])) after
  pub held : P before
  pub out : P (before ++ (here ∷ [])) → ⊥
  pub place : p ≡ length before + 1

-- all records pass from s on, and lead to the last state
abbrev pub KeptTo : {S : Type 0} → (S → Record → Type 0) → (S → Record → S) → S → List ℕ → S → Type 0
KeptTo passes after s bytes last = Passed (λ rs. AllInTurn passes after s rs × (fold after s rs ≡ last)) bytes

-- the fault is that of the first record that does not pass
abbrev pub BrokenAt : {S : Type 0} → (S → Record → Type 0) → (S → Record → S) → (ℕ → FileFault) → S → List ℕ → FileFault → Type 0
BrokenAt passes after fault s bytes e = (p : ℕ) × (e ≡ fault p) × FirstOut (AllInTurn passes after s) bytes p

-- record p is the first that is none: those before it stand whole, and at it bytes are left but no whole record
pub record UnreadAt (bytes : List ℕ) (p : ℕ) : Type 0 where
  pub before : List Record
  pub rest : List ℕ
  pub reads : Reads bytes before rest
  pub more : 0 < length rest
  pub none : Whole rest → ⊥
  pub place : p ≡ length before + 1

-- the bytes are records and nothing else
abbrev pub AllRead : List ℕ → Type 0
AllRead bytes = (rs : List Record) × Reads bytes rs []

-- rule 1 is broken at the place that the fault tells
abbrev pub Unreads : List ℕ → FileFault → Type 0
Unreads bytes e = (p : ℕ) × (e ≡ Unread p) × UnreadAt bytes p
