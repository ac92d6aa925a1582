-- What tables of the coordinated method stand for.
use Rattle.std.specs.Prelude.{List, [], map, ℤ, pos, ◌-ℤ◌, ◌*ℤ◌, None, Ok, Err, Result}
use Rattle.std.specs.List.{zip}
use Rattle.hourbook.specs.declared.hourfile.border.Border.{Border}
use Rattle.hourbook.specs.declared.region.rows.Zone as zone
use Rattle.hourbook.specs.declared.region.rows.Line.{Line}
use Rattle.hourbook.specs.declared.region.rows.LineEnd.TheVariants as End
use Rattle.hourbook.specs.declared.region.fault.Flaw.{Flaw}
use Rattle.hourbook.specs.Tables.{price_at}
use Rattle.hourbook.specs.Meaning.{Meaning}

-- a zone for each price and net position
abbrev pub zones_of : List ℤ → List ℤ → List zone.Zone
zones_of ps ns = map (λ (p : ℤ × ℤ). record { price = p.0; position = p.1 }) (zip ps ns)

-- the flow of a border is its allocated capacity
abbrev pub border_line : List ℤ → Border → Line
border_line ps b = record {
  near = b.near;
  far = End.Zone b.far;
  flow = b.capacity.value *ℤ pos 10000;
  near_price = price_at ps b.near;
  far_price = price_at ps b.far;
  spread = price_at ps b.far -ℤ price_at ps b.near;
}

-- where the verdict is that the tables are sound: the zones, and a line for each border; no hub
abbrev pub coordinated_means : List ℤ → List ℤ → List Border → Result (Unit {0}) Flaw → Meaning
coordinated_means ps ns bs (Ok _) = record { verdict = Ok tt; zones = zones_of ps ns; lines = map (border_line ps) bs; hub_price = None }
coordinated_means ps ns bs (Err f) = record { verdict = Err f; zones = []; lines = []; hub_price = None }
