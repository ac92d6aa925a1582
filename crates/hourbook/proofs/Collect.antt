-- Records collected one after another. Assumes nothing.
use Rattle.std.proofs.Common.{◌≡◌, ℕ, List, [], ◌∷◌, ◌++◌, sym, refl, ap, ◌∙◌}
use Rattle.std.proofs.lemmas.List.Sums.{fold_push}
use Rattle.hourbook.specs.declared.hourfile.«record».Record.{Record}
use Rattle.hourbook.specs.Collecting.{Collects}
use Rattle.hourbook.specs.Encoding.{encoded}
use Rattle.hourbook.proofs.Passing.{reads_next}
use Rattle.hourbook.specs.SortedRecords.{Sorted, plus}

pub collects_none : (bytes rest : List ℕ) (s : Sorted) → rest ≡ bytes → Collects bytes s s rest
collects_none bytes rest s e = record { records = []; reads = e; says = refl }

pub collects_next : (bytes : List ℕ) (start s more : Sorted) (rest after : List ℕ) (x : Record) → Collects bytes start s rest → rest ≡ encoded x ++ after → more ≡ plus s x → Collects bytes start more after
collects_next bytes start s more rest after x so split told =
    let rs = so.records in
    record {
      records = rs ++ (x ∷ []);
      reads = reads_next bytes rs rest after x so.reads split;
      says = told ∙ (ap (λ t. plus t x) so.says ∙ sym (fold_push plus start rs x));
    }
