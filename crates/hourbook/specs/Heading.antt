-- What the header of an hour file says.
use Rattle.std.specs.Prelude.{◌≡◌, ℕ, List, Some}
use Rattle.hourbook.specs.declared.hourfile.census.Census.{Census}
use Rattle.hourbook.specs.declared.hourfile.«record».Header as header
use Rattle.hourbook.specs.declared.hourfile.«record».Record.TheVariants.{Header}
use Rattle.hourbook.specs.Encoding.{Begins}
use Rattle.hourbook.specs.Lawful.{method_of}

-- the bytes begin with a header, and hour, region and method are its own
pub record Heads (bytes : List ℕ) (c : Census) : Type 0 where
  pub header : header.Header
  pub begins : Begins bytes (Header header)
  pub hour : c.hour ≡ (header).hour
  pub region : c.region ≡ (header).region
  pub method : method_of (header).method ≡ Some c.method
