-- Records that keep a rule, one after another. Assumes nothing.
use Rattle.std.proofs.Common.{◌≡◌, ℕ, ◌+◌, List, [], ◌∷◌, ◌++◌, length, fold, sym, ap, ◌∙◌, subst, arith}
use Rattle.std.specs.List.{AllByRecursion}
use Rattle.std.proofs.lemmas.List.{length-append}
use Rattle.std.proofs.lemmas.List.Sums.{fold_push}
use Rattle.hourbook.specs.declared.hourfile.«record».Record.{Record}
use Rattle.hourbook.specs.Encoding.{encoded}
use Rattle.hourbook.specs.Passes.{AllInTurn, FirstOut, Reads}
use Rattle.hourbook.proofs.Passing.{reads_next}

module _ {S : Type 0} (passes : S → Record → Type 0) (after : S → Record → S) where
  turn_push : (s : S) (rs : List Record) (x : Record) → AllInTurn passes after s rs → passes (fold after s rs) x → AllInTurn passes after s (rs ++ (x ∷ []))
  turn_push s [] x all h = (h, tt)
  turn_push s (r ∷ rs) x all h = (all.0, turn_push (after s r) rs x all.1 h)

  turn_last : (s : S) (rs : List Record) (x : Record) → AllInTurn passes after s (rs ++ (x ∷ [])) → passes (fold after s rs) x
  turn_last s [] x all = all.0
  turn_last s (r ∷ rs) x all = turn_last (after s r) rs x all.1

  -- so many records have passed from s to now, and rest is left
  pub record Following (bytes rest : List ℕ) (count : ℕ) (s now : S) : Type 0 where
    pub records : List Record
    pub reads : Reads bytes records rest
    pub counted : count ≡ length records
    pub keeps : AllInTurn passes after s records
    pub state : fold after s records ≡ now

  module _ (bytes rest : List ℕ) (count : ℕ) (s now : S) where
    pub following_start : rest ≡ bytes → count ≡ 0 → s ≡ now → Following bytes rest count s now
    following_start e zero same = record { records = []; reads = e; counted = zero; keeps = tt; state = same }

    module _ (so : Following bytes rest count s now) where
      module _ (left : List ℕ) (x : Record) (split : rest ≡ encoded x ++ left) where
        pub following_next : (more : ℕ) (next : S) → more ≡ count + 1 → passes now x → next ≡ after now x → Following bytes left more s next
        following_next more next one pass e = record {
          records = so.records ++ (x ∷ []);
          reads = reads_next bytes so.records rest left x so.reads split;
          counted = omega (arith, one, so.counted, length-append so.records (x ∷ []));
          keeps = turn_push s so.records x so.keeps (subst (λ t. passes t x) (sym so.state) pass);
          state = fold_push after s so.records x ∙ (ap (λ t. after t x) so.state ∙ sym e);
        }

        pub following_out : (place : ℕ) → place ≡ count + 1 → (passes now x → ⊥) → FirstOut (AllInTurn passes after s) bytes place
        following_out place one not = record {
          before = so.records;
          here = x;
          after = left;
          reads = reads_next bytes so.records rest left x so.reads split;
          held = so.keeps;
          out = λ h. not (subst (λ t. passes t x) so.state (turn_last s so.records x h));
          place = omega (arith, one, so.counted);
        }

-- a rule without a state is kept by each record alone
module _ {S : Type 0} (passes : S → Record → Type 0) (s : S) where
  pub all_from : (rs : List Record) → AllInTurn passes (λ t _. t) s rs → AllByRecursion (passes s) rs
  all_from [] h = tt
  all_from (r ∷ rs) h = (h.0, all_from rs h.1)

  pub all_in_turn : (rs : List Record) → AllByRecursion (passes s) rs → AllInTurn passes (λ t _. t) s rs
  all_in_turn [] h = tt
  all_in_turn (r ∷ rs) h = (h.0, all_in_turn rs h.1)
