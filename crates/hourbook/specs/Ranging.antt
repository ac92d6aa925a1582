-- Rule 4: every number lies in its range.
use Rattle.std.specs.Prelude.{◌≡◌, ℕ, ◌⊎◌, List, Some, None}
use Rattle.std.specs.List.{AllByRecursion}
use Rattle.hourbook.specs.declared.hourfile.fault.FileFault.{FileFault}
use Rattle.hourbook.specs.declared.hourfile.fault.FileFault.TheVariants.{Range}
use Rattle.hourbook.specs.declared.hourfile.method.Method.{Method}
use Rattle.hourbook.specs.declared.hourfile.«record».Header.{Header}
use Rattle.hourbook.specs.Lawful.{InRange, method_of}
use Rattle.hourbook.specs.Passes.{FirstOut, Passed}

-- the header's method is m, and every record keeps the ranges of that method
abbrev pub Ranged : List ℕ → Header → Method → Type 0
Ranged bytes h m = (method_of h.method ≡ Some m) × Passed (AllByRecursion (InRange m)) bytes

-- the header, which is the first record, has no method's number, or else the first record with a number out of range
abbrev pub OutOfRange : List ℕ → Header → FileFault → Type 0
OutOfRange bytes h e = (p : ℕ) × (e ≡ Range p)
    × (((p ≡ 1) × (method_of h.method ≡ None)) ⊎ ((m : Method) × (method_of h.method ≡ Some m) × FirstOut (AllByRecursion (InRange m)) bytes p))
