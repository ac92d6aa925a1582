-- Rule 3: how many records of each kind there are.
use Rattle.std.specs.Prelude.{◌≡◌, ℕ, ◌⊎◌, List, fold, Option}
use Rattle.hourbook.specs.declared.hourfile.fault.FileFault.{FileFault}
use Rattle.hourbook.specs.declared.hourfile.fault.FileFault.TheVariants.{Count}
use Rattle.hourbook.specs.declared.hourfile.method.Method.{Method}
use Rattle.hourbook.specs.declared.hourfile.«record».Record.{Record}
use Rattle.hourbook.specs.declared.hourfile.tally.Tally.{Tally}
use Rattle.hourbook.specs.Kinds.{kind_of}
use Rattle.hourbook.specs.Passes.{FirstOut, Passed}
use Rattle.hourbook.specs.Tallies.{Furnished, WithinLimits, added, none_yet}

abbrev pub tally_more : Tally → Record → Tally
tally_more t r = added t (kind_of r)

-- how many records of each kind come
abbrev pub tallied : List Record → Tally
tallied rs = fold tally_more none_yet rs

-- no kind comes too often
abbrev pub Limited : List Record → Type 0
Limited rs = WithinLimits (tallied rs)

-- t is the tally of the records, no kind comes too often, and none is missing
abbrev pub Counted : List ℕ → Option Method → Tally → Type 0
Counted bytes method t = Passed (λ rs. (tallied rs ≡ t) × WithinLimits t × Furnished t method) bytes

-- the first record past a maximum or, at place 0, a kind that is missing
abbrev pub Miscounts : List ℕ → Option Method → FileFault → Type 0
Miscounts bytes method e = (p : ℕ) × (e ≡ Count p)
    × (FirstOut Limited bytes p ⊎ ((p ≡ 0) × Passed (λ rs. Limited rs × (Furnished (tallied rs) method → ⊥)) bytes))
