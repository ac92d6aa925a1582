-- A pass under way. Assumes nothing.
use Rattle.std.proofs.Common.{◌≡◌, ℕ, ◌+◌, List, [], ◌∷◌, ◌++◌, length, sym, refl, ap, ◌∙◌, append_assoc, arith}
use Rattle.std.specs.List.{flat_map}
use Rattle.std.proofs.lemmas.List.{flat_map_more, length-append}
use Rattle.hourbook.specs.declared.hourfile.«record».Record.{Record}
use Rattle.hourbook.specs.Encoding.{encoded}
use Rattle.hourbook.specs.Passes.{Reads, Passed, FirstOut}

pub reads_next : (bytes : List ℕ) (rs : List Record) (rest after : List ℕ) (x : Record) → Reads bytes rs rest → rest ≡ encoded x ++ after → Reads bytes (rs ++ (x ∷ [])) after
reads_next bytes rs rest after x so split =
    ap (λ l. l ++ after) (sym (flat_map_more encoded [] rs x))
    ∙ (append_assoc (flat_map encoded rs) (encoded x) after
    ∙ (ap (λ l. flat_map encoded rs ++ l) (sym split) ∙ so))

-- so many records have come, and rest is left
pub record Passing (bytes rest : List ℕ) (count : ℕ) : Type 0 where
  pub records : List Record
  pub reads : Reads bytes records rest
  pub counted : count ≡ length records

module _ (bytes rest : List ℕ) where
  pub passing_start : rest ≡ bytes → Passing bytes rest 0
  passing_start e = record { records = []; reads = e; counted = refl }

  pub passing_next : (after : List ℕ) (count : ℕ) (x : Record) → Passing bytes rest count → rest ≡ encoded x ++ after → Passing bytes after (count + 1)
  passing_next after count x s split = record {
    records = s.records ++ (x ∷ []);
    reads = reads_next bytes s.records rest after x s.reads split;
    counted = omega (arith, s.counted, length-append s.records (x ∷ []));
  }

pub passed_weaker : (P Q : List Record → Type 0) (bytes : List ℕ) → ((rs : List Record) → P rs → Q rs) → Passed P bytes → Passed Q bytes
passed_weaker P Q bytes f h = record { records = h.records; rest = h.rest; reads = h.reads; ends = h.ends; keeps = f h.records h.keeps }

pub first_out_same : (P Q : List Record → Type 0) (bytes : List ℕ) (p : ℕ) → ((rs : List Record) → P rs → Q rs) → ((rs : List Record) → Q rs → P rs) → FirstOut P bytes p → FirstOut Q bytes p
first_out_same P Q bytes p f g h = record { before = h.before; here = h.here; after = h.after; reads = h.reads; held = f h.before h.held; out = λ q. h.out (g (h.before ++ (h.here ∷ [])) q); place = h.place }
