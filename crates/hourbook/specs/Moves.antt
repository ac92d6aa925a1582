-- What a call that moves the book leaves.
use Rattle.std.specs.Prelude.{◌≡◌, Ok, Err, Result}
use Rattle.hourbook.specs.declared.book.fault.BookFault.{BookFault}
use Rattle.hourbook.specs.declared.book.Refusal.{Refusal}

-- refused exactly as judged, the book handed back as it was; accepted, and After holds of what comes
abbrev pub Moved : {X Y : Type 0} → Result (Unit {0}) BookFault → X → (Y → Type 0) → Result Y (Refusal X) → Type 0
Moved judged before After (Ok y) = (judged ≡ Ok tt) × After y
Moved judged before After (Err e) = (judged ≡ Err e.fault) × (e.book ≡ before)
