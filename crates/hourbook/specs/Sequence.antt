-- Rule 2: the records follow one another as H, any Z, any B, any L, any P, any N, any O, and E.
use Rattle.std.specs.Prelude.{◌≡◌, ℕ, ◌⊎◌, List, [], ◌∷◌, ◌++◌, map}
use Rattle.hourbook.specs.declared.hourfile.fault.FileFault.{FileFault}
use Rattle.hourbook.specs.declared.hourfile.fault.FileFault.TheVariants.{Order}
use Rattle.hourbook.specs.declared.hourfile.«record».Header.{Header}
use Rattle.hourbook.specs.declared.hourfile.«record».Kind.{Kind}
use Rattle.hourbook.specs.declared.hourfile.«record».Kind.TheVariants as kind
use Rattle.hourbook.specs.declared.hourfile.«record».Record.{Record}
use Rattle.hourbook.specs.declared.hourfile.«record».Record.TheVariants as row
use Rattle.hourbook.specs.Encoding.{Begins}
use Rattle.hourbook.specs.Kinds.{kind_of}
use Rattle.hourbook.specs.Passes.{FirstOut, Passed}

-- any number of one kind, none included, and then as P says
abbrev pub Many : Kind → (List Kind → Type 0) → List Kind → Type 0
Many k P [] = P []
Many k P (x ∷ xs) = P (x ∷ xs) ⊎ ((x ≡ k) × Many k P xs)

abbrev pub Last : List Kind → Type 0
Last ks = ks ≡ kind.End ∷ []

abbrev pub FromOwners : List Kind → Type 0
FromOwners = Many kind.Owner Last

abbrev pub FromLosses : List Kind → Type 0
FromLosses = Many kind.Loss FromOwners

abbrev pub FromFactors : List Kind → Type 0
FromFactors = Many kind.Factor FromLosses

abbrev pub FromLegs : List Kind → Type 0
FromLegs = Many kind.Leg FromFactors

abbrev pub FromBorders : List Kind → Type 0
FromBorders = Many kind.Border FromLegs

abbrev pub FromZones : List Kind → Type 0
FromZones = Many kind.Zone FromBorders

abbrev pub InSequence : List Kind → Type 0
InSequence ks = (rest : List Kind) × (ks ≡ kind.Header ∷ rest) × FromZones rest

abbrev pub kinds_of : List Record → List Kind
kinds_of rs = map kind_of rs

-- the records are all of an hour file's, as far as their order goes
abbrev pub Ordered : List Record → Type 0
Ordered rs = InSequence (kinds_of rs)

-- some order begins with the records
abbrev pub Opening : List Record → Type 0
Opening rs = (more : List Kind) × InSequence (kinds_of rs ++ more)

-- the records stand in order, and the bytes begin with the header
abbrev pub WellOrdered : List ℕ → Header → Type 0
WellOrdered bytes h = Passed Ordered bytes × Begins bytes (row.Header h)

-- the first record that may not stand where it stands or, at place 0, an end that is missing
abbrev pub Disordered : List ℕ → FileFault → Type 0
Disordered bytes e = (p : ℕ) × (e ≡ Order p)
    × (FirstOut Opening bytes p ⊎ ((p ≡ 0) × Passed (λ rs. Opening rs × (Ordered rs → ⊥)) bytes))
