-- Tallies that stay within the limits, one record after another. Assumes nothing.
use Rattle.std.proofs.Common.{List, [], ◌∷◌, fold, arith}
use Rattle.hourbook.specs.declared.hourfile.«record».Kind.{Kind}
use Rattle.hourbook.specs.declared.hourfile.«record».Kind.TheVariants.{Header, Zone, Border, Leg, Factor, Loss, Owner, End}
use Rattle.hourbook.specs.declared.hourfile.«record».Record.{Record}
use Rattle.hourbook.specs.declared.hourfile.tally.Tally.{Tally}
use Rattle.hourbook.specs.Counting.{Limited, tally_more}
use Rattle.hourbook.specs.Kinds.{kind_of}
use Rattle.hourbook.specs.Passes.{AllInTurn}
use Rattle.hourbook.specs.Tallies.{WithinLimits, added, none_yet}

-- no record takes the tally past a limit
abbrev pub WithinInTurn : Tally → List Record → Type 0
WithinInTurn = AllInTurn (λ t r. WithinLimits (added t (kind_of r))) tally_more

within_at_end : (t : Tally) (rs : List Record) → WithinLimits t → WithinInTurn t rs → WithinLimits (fold tally_more t rs)
within_at_end t [] w o = w
within_at_end t (r ∷ rs) w o = within_at_end (tally_more t r) rs o.0 o.1

within_one_less : (t : Tally) (k : Kind) → WithinLimits (added t k) → WithinLimits t
within_one_less t Header w = w
within_one_less t Zone w = (omega (arith, w.0), w.1, w.2, w.3)
within_one_less t Border w = (w.0, omega (arith, w.1), w.2, w.3)
within_one_less t Leg w = (w.0, w.1, omega (arith, w.2), w.3)
within_one_less t Factor w = w
within_one_less t Loss w = w
within_one_less t Owner w = (w.0, w.1, w.2, omega (arith, w.3))
within_one_less t End w = w

within_at_start : (t : Tally) (rs : List Record) → WithinLimits (fold tally_more t rs) → WithinLimits t
within_at_start t [] w = w
within_at_start t (r ∷ rs) w = within_one_less t (kind_of r) (within_at_start (tally_more t r) rs w)

within_in_turn : (t : Tally) (rs : List Record) → WithinLimits (fold tally_more t rs) → WithinInTurn t rs
within_in_turn t [] w = tt
within_in_turn t (r ∷ rs) w = (within_at_start (tally_more t r) rs w, within_in_turn (tally_more t r) rs w)

pub limited_from : (rs : List Record) → WithinInTurn none_yet rs → Limited rs
limited_from rs o = within_at_end none_yet rs (omega arith, omega arith, omega arith, omega arith) o

pub limited_in_turn : (rs : List Record) → Limited rs → WithinInTurn none_yet rs
limited_in_turn rs w = within_in_turn none_yet rs w
