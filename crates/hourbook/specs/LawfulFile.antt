-- A lawful hour file, and the first rule that another breaks.
use Rattle.std.specs.Prelude.{◌≡◌, ℕ, ◌⊎◌, List}
use Rattle.hourbook.specs.declared.hourfile.census.Census.{Census}
use Rattle.hourbook.specs.declared.hourfile.fault.FileFault.{FileFault}
use Rattle.hourbook.specs.declared.hourfile.«record».Header.{Header}
use Rattle.hourbook.specs.declared.hourfile.tally.Tally.{Tally}
use Rattle.hourbook.specs.Counting.{Counted, Miscounts}
use Rattle.hourbook.specs.Lawful.{method_of}
use Rattle.hourbook.specs.Naming.{NamesBroken, NamesKept, census_lines}
use Rattle.hourbook.specs.Passes.{AllRead, Unreads}
use Rattle.hourbook.specs.Ranging.{OutOfRange, Ranged}
use Rattle.hourbook.specs.Sequence.{Disordered, WellOrdered}
use Rattle.hourbook.specs.Wholeness.{AllContribute, AllOwned, NoneContributes, NotOwned}

-- the census says what the header and the counts of the file say
pub record Counts (h : Header) (t : Tally) (c : Census) : Type 0 where
  pub hour : c.hour ≡ h.hour
  pub region : c.region ≡ h.region
  pub zones : c.zones ≡ t.zones
  pub borders : c.borders ≡ t.borders
  pub legs : c.legs ≡ t.legs

-- rules 1 to 4
pub record Formed (bytes : List ℕ) (c : Census) : Type 0 where
  pub header : Header
  pub tally : Tally
  pub all_read : AllRead bytes
  pub well_ordered : WellOrdered bytes header
  pub counted : Counted bytes (method_of header.method) tally
  pub ranged : Ranged bytes header c.method
  pub says : Counts header tally c

-- rules 1 to 7
pub record LawfulFile (bytes : List ℕ) (c : Census) : Type 0 where
  pub formed : Formed bytes c
  pub named : NamesKept bytes c
  pub contribute : AllContribute bytes (census_lines c)
  pub owned : AllOwned bytes c.legs

-- a rule is broken, and those before it are kept
pub record FirstBroken (bytes : List ℕ) (e : FileFault) : Type 0 where
  pub rule : Unreads bytes e
      ⊎ ((AllRead bytes × Disordered bytes e)
      ⊎ (((h : Header) × AllRead bytes × WellOrdered bytes h × Miscounts bytes (method_of h.method) e)
      ⊎ (((h : Header) × (t : Tally) × AllRead bytes × WellOrdered bytes h × Counted bytes (method_of h.method) t × OutOfRange bytes h e)
      ⊎ (((c : Census) × Formed bytes c × NamesBroken bytes c e)
      ⊎ (((c : Census) × Formed bytes c × NamesKept bytes c × NoneContributes bytes (census_lines c) e)
      ⊎ ((c : Census) × Formed bytes c × NamesKept bytes c × AllContribute bytes (census_lines c) × NotOwned bytes c.legs e))))))
