-- What the legs of a line contribute.
use Rattle.std.specs.Prelude.{sum, ℕ, List, map}
use Rattle.hourbook.specs.declared.hourfile.owned_leg.OwnedLeg.{OwnedLeg}

abbrev pub contributions : List OwnedLeg → List ℕ
contributions legs = map (λ (l : OwnedLeg). l.contribution) legs

abbrev pub contributed : List OwnedLeg → ℕ
contributed legs = sum (contributions legs)
