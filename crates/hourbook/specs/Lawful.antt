-- What each record may say, whatever stands beside it.
use Rattle.std.specs.Prelude.{◌≡◌, ℕ, ◌≤◌, if◌then◌else◌, ℤ, pos, Some, None, Option, ◌==◌, unsigned_abs}
use Rattle.hourbook.specs.declared.hourfile.method.Method.{Method}
use Rattle.hourbook.specs.declared.hourfile.method.Method.TheVariants.{FlowBased, Coordinated}
use Rattle.hourbook.specs.declared.hourfile.«record».Record.{Record}
use Rattle.hourbook.specs.declared.hourfile.«record».Record.TheVariants.{Header, Zone, Border, Leg, Factor, Loss, Owner, End}

-- the method by its number
abbrev pub method_of : ℕ → Option Method
method_of n = if n == 1 then Some FlowBased else if n == 2 then Some Coordinated else None

-- the flow-based method allocates no capacity
abbrev pub CapacityInRange : Method → ℤ → Type 0
CapacityInRange FlowBased capacity = capacity ≡ pos 0
CapacityInRange Coordinated capacity = unsigned_abs capacity ≤ 200000

-- each number of a record lies in its range
abbrev pub InRange : Method → Record → Type 0
InRange m (Header x) = (1 ≤ x.hour) × (1 ≤ x.region) × (x.region ≤ 32) × (1 ≤ x.method) × (x.method ≤ 2)
InRange m (Zone x) = (unsigned_abs x.price ≤ 500000) × (unsigned_abs x.position ≤ 1000000)
InRange m (Border x) = CapacityInRange m x.capacity
InRange m (Leg x) = Unit {0}
InRange m (Factor x) = unsigned_abs x.factor ≤ 10000
InRange m (Loss x) = x.loss ≤ 1000
InRange m (Owner x) = (1 ≤ x.owner) × (x.owner ≤ 64) × (x.key ≤ 10000)
InRange m End = Unit {0}
