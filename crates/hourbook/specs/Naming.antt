-- What a record may name, after the records before it.
use Rattle.std.specs.Prelude.{◌≡◌, ◌∷◌, ◌++◌, ℕ, ◌-◌, ◌<◌, ◌≤◌, Bool, true, false, List, [], replicate, ◌≢◌, slice_index, slice_index_or, slice_set}
use Rattle.arrayvec.specs.ArrayVec.{array_vec_len}
use Rattle.hourbook.specs.declared.hourfile.census.Census.{Census}
use Rattle.hourbook.specs.declared.hourfile.fault.FileFault.{FileFault}
use Rattle.hourbook.specs.declared.hourfile.fault.FileFault.TheVariants.{Name}
use Rattle.hourbook.specs.declared.hourfile.method.Method.TheVariants.{FlowBased}
use Rattle.hourbook.specs.declared.hourfile.names.Names.{Names}
use Rattle.hourbook.specs.declared.hourfile.«record».BorderRecord.{BorderRecord}
use Rattle.hourbook.specs.declared.hourfile.«record».FactorRecord.{FactorRecord}
use Rattle.hourbook.specs.declared.hourfile.«record».LegRecord.{LegRecord}
use Rattle.hourbook.specs.declared.hourfile.«record».LossRecord.{LossRecord}
use Rattle.hourbook.specs.declared.hourfile.«record».Record.{Record}
use Rattle.hourbook.specs.declared.hourfile.«record».Record.TheVariants.{Header, Zone, Border, Leg, Factor, Loss, Owner, End}
use Rattle.hourbook.specs.Numbering.{Numbered, lines_of}
use Rattle.hourbook.specs.Passes.{AllInTurn, FirstOut, Passed}

abbrev pub census_lines : Census → ℕ
census_lines c = lines_of c.method c.zones c.borders

-- before the first record
abbrev pub none_named : Census → Names
none_named c = record { census = c; lines = record { items = [] }; factors = replicate 64 (replicate 16 false); losses = replicate 64 false }

-- two zones of the file
abbrev pub BorderNamed : Census → BorderRecord → Type 0
BorderNamed c b = Numbered c.zones b.near × Numbered c.zones b.far × (b.near ≢ b.far)

-- a line of the file
abbrev pub LegNamed : Names → LegRecord → Type 0
LegNamed n l = (array_vec_len n.lines < n.census.legs) × Numbered (census_lines n.census) l.line

abbrev pub leg_noted : Names → LegRecord → Names
leg_noted n l = record { census = n.census; lines = record { items = n.lines.items ++ l.line ∷ [] }; factors = n.factors; losses = n.losses }

abbrev pub factor_seen : Names → FactorRecord → Bool
factor_seen n f = slice_index_or (slice_index_or n.factors (f.leg - 1) []) (f.zone - 1) false

-- in the flow-based method, a leg on a border and a zone, and once only
abbrev pub FactorNamed : Names → FactorRecord → Type 0
FactorNamed n f =
    (n.census.method ≡ FlowBased)
    × Numbered n.census.legs f.leg
    × Numbered n.census.zones f.zone
    × (slice_index n.lines.items (f.leg - 1) ≤ n.census.borders)
    × (factor_seen n f ≡ false)

abbrev pub factor_noted : Names → FactorRecord → Names
factor_noted n f = record { census = n.census; lines = n.lines; factors = slice_set n.factors (f.leg - 1) (slice_set (slice_index_or n.factors (f.leg - 1) []) (f.zone - 1) true); losses = n.losses }

-- a line of the file, and once only
abbrev pub LossNamed : Names → LossRecord → Type 0
LossNamed n l = Numbered (census_lines n.census) l.line × (slice_index_or n.losses (l.line - 1) false ≡ false)

abbrev pub loss_noted : Names → LossRecord → Names
loss_noted n l = record { census = n.census; lines = n.lines; factors = n.factors; losses = slice_set n.losses (l.line - 1) true }

abbrev pub Named : Names → Record → Type 0
Named n (Header x) = Unit {0}
Named n (Zone x) = Unit {0}
Named n (Border x) = BorderNamed n.census x
Named n (Leg x) = LegNamed n x
Named n (Factor x) = FactorNamed n x
Named n (Loss x) = LossNamed n x
Named n (Owner x) = Numbered n.census.legs x.leg
Named n End = Unit {0}

-- what the next record may lean on
abbrev pub noted : Names → Record → Names
noted n (Header x) = n
noted n (Zone x) = n
noted n (Border x) = n
noted n (Leg x) = leg_noted n x
noted n (Factor x) = factor_noted n x
noted n (Loss x) = loss_noted n x
noted n (Owner x) = n
noted n End = n

-- each record names what is there, after the records before it
abbrev pub AllNamed : Names → List Record → Type 0
AllNamed = AllInTurn Named noted

-- rule 5 is kept by all records
abbrev pub NamesKept : List ℕ → Census → Type 0
NamesKept bytes c = Passed (AllNamed (none_named c)) bytes

-- the fault tells the first record that breaks rule 5
abbrev pub NamesBroken : List ℕ → Census → FileFault → Type 0
NamesBroken bytes c e = (p : ℕ) × (e ≡ Name p) × FirstOut (AllNamed (none_named c)) bytes p
