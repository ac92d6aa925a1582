use Rattle.std.proofs.Common.{◌≡◌, ◌≤◌, map, length}
use Rattle.hourbook.specs.Rising.{owners_below, number_of}
use Rattle.hourbook.proofs.hourfile.ownership.rising_owners.Given as goal

abbrev pub invariant-loop-number : goal.invariant-loop-number
invariant-loop-number l = (length l.owners.items ≤ l.number) × (map number_of l.owners.items ≡ owners_below l.lines l.number)
