use Rattle.std.proofs.Common.{rules}
use Rattle.std.proofs.lemmas.List.{map-append}
use Rattle.hourbook.proofs.hourfile.gathered.Gathered.take_zone.Goals as goal

pub returns : goal.returns
returns c = rw (c.in_ok-push.ensures.items, c.in_ok-push-2.ensures.items) (simp map-append (search rules))
