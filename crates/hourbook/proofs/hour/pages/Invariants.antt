use Rattle.std.proofs.Common.{◌≡◌, take, vec_items}
use Rattle.std.specs.List.{flat_map}
use Rattle.hourbook.specs.Hours.{page_of}
use Rattle.hourbook.proofs.hour.pages.Given as goal

-- the statements of the owners so far
abbrev pub invariant-loop-owner : goal.invariant-loop-owner
invariant-loop-owner l = vec_items l.text ≡ flat_map (page_of l.book.used l.memory) (take l.owner-index l.owners)
