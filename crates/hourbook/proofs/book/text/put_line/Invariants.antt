use Rattle.std.proofs.Common.{ℕ, ◌<◌, drop, get_or, pos, w64, SFits}
use Rattle.hourbook.specs.Text.{fields_of, line_of}
use Rattle.hourbook.proofs.Sinking.{Underway}
use Rattle.hourbook.proofs.book.text.put_line.Given as goal

abbrev pub invariant-loop-number : goal.invariant-loop-number
invariant-loop-number g l =
    record {
      text : Underway g.S.Sink.has_room g.S.Sink.took l.fn.sink l.sink (line_of l.letter l.fields) (fields_of (drop l.number-index l.fields));
      numbers : (k : ℕ) → k < l.number-index → SFits w64 (get_or l.fields k (pos 0));
    }
