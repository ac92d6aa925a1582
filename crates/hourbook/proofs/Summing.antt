-- Sums by number, one record more. Assumes nothing.
use Rattle.std.proofs.Common.{◌≡◌, ℕ, ◌+◌, ◌-◌, min, cond, eqb, ◌⊎◌, List, [], ◌∷◌, ◌++◌, length, get_or, replicate, sum_by, sym, refl, ap, ◌∙◌, subst, inl, inr, ⊎_elim, arith, length-set}
use lib.ListN.{get_or-replicate}
use Rattle.std.proofs.lemmas.Bool.{cases_lt, cond-false, ne_eqb}
use Rattle.std.proofs.lemmas.List.Sums.{sum_by_push}
use Rattle.std.proofs.lemmas.Grind.{common_steps}
use Rattle.std.proofs.lemmas.Bool.Decides.{nat_tests}
use Rattle.hourbook.specs.declared.hourfile.«record».Record.{Record}
use Rattle.hourbook.specs.Encoding.{encoded}
use Rattle.hourbook.specs.Passes.{Reads}
use Rattle.hourbook.proofs.Passing.{reads_next}
use Rattle.hourbook.specs.Numbering.{Numbered}
use Rattle.hourbook.specs.Sums.{plus}

pub record Summed (f : ℕ → Record → ℕ) (rs : List Record) (sums : List ℕ) : Type 0 where
  pub long : length sums ≡ 64
  pub each : (n : ℕ) → Numbered 64 n → get_or sums (n - 1) 0 ≡ min (sum_by (f n) rs) 65535

module _ (f : ℕ → Record → ℕ) where
  pub summed_none : Summed f [] (replicate 64 0)
  summed_none = record { long = refl; each = λ n h. get_or-replicate 64 (n - 1) 0 0 (omega (arith, h.0, h.1)) }

  module _ (rs : List Record) (x : Record) (sums : List ℕ) (so : Summed f rs sums) where
    pub summed_same : ((n : ℕ) → Numbered 64 n → f n x ≡ 0) → Summed f (rs ++ (x ∷ [])) sums
    summed_same none = record {
      long = so.long;
      each = λ n h. so.each n h ∙ ap (λ s. min s 65535) (omega (arith, sum_by_push (f n) rs x, none n h));
    }

    pub summed_plus : (i v : ℕ) → Numbered 64 i → ((n : ℕ) → f n x ≡ cond (eqb i n) v 0) → Summed f (rs ++ (x ∷ [])) (plus sums i v)
    summed_plus i v at gives = record {
      long = length-set sums (i - 1) (min (get_or sums (i - 1) 0 + v) 65535) ∙ so.long;
      each = λ n h. told n h (sum_by_push (f n) rs x) (so.each n h) (so.each i at) (gives n);
    }
      where
        told : (n : ℕ) → Numbered 64 n → sum_by (f n) (rs ++ (x ∷ [])) ≡ sum_by (f n) rs + f n x → get_or sums (n - 1) 0 ≡ min (sum_by (f n) rs) 65535 → get_or sums (i - 1) 0 ≡ min (sum_by (f i) rs) 65535 → f n x ≡ cond (eqb i n) v 0
            → get_or (plus sums i v) (n - 1) 0 ≡ min (sum_by (f n) (rs ++ (x ∷ []))) 65535
        told n h push here there gives = grind (arith, common_steps, nat_tests, so.long)

numbered_or_not : (n : ℕ) → Numbered 64 n ⊎ (Numbered 64 n → ⊥)
numbered_or_not n = ⊎_elim
    (λ low. inr (λ h. omega arith))
    (λ some. ⊎_elim (λ high. inr (λ h. omega arith)) (λ few. inl (omega arith, omega arith)) (cases_lt 64 n))
    (cases_lt n 1)

-- the record gives v to number i, which may be none
module _ (f : ℕ → Record → ℕ) (rs : List Record) (x : Record) (sums after : List ℕ) (so : Summed f rs sums) (i v : ℕ) (gives : (n : ℕ) → f n x ≡ cond (eqb i n) v 0) where
  none_out : (n : ℕ) → Numbered 64 n → (Numbered 64 i → ⊥) → f n x ≡ cond (eqb i n) v 0 → f n x ≡ 0
  none_out n h out gives = gives ∙ cond-false (eqb i n) v 0 (ne_eqb i n (λ e. out (subst (Numbered 64) (sym e) h)))

  pub summed_next : (Numbered 64 i → after ≡ plus sums i v) → ((Numbered 64 i → ⊥) → after ≡ sums) → Summed f (rs ++ (x ∷ [])) after
  summed_next adds same = ⊎_elim
      (λ at. subst (Summed f (rs ++ (x ∷ []))) (sym (adds at)) (summed_plus f rs x sums so i v at gives))
      (λ out. subst (Summed f (rs ++ (x ∷ []))) (sym (same out)) (summed_same f rs x sums so (λ n h. none_out n h out (gives n))))
      (numbered_or_not i)

-- the records so far have these sums, and rest is left
pub record SumsSoFar (f : ℕ → Record → ℕ) (bytes rest sums : List ℕ) : Type 0 where
  pub records : List Record
  pub reads : Reads bytes records rest
  pub summed : Summed f records sums

module _ (f : ℕ → Record → ℕ) (bytes rest sums : List ℕ) where
  pub sums_start : rest ≡ bytes → sums ≡ replicate 64 0 → SumsSoFar f bytes rest sums
  sums_start e zero = record { records = []; reads = e; summed = subst (Summed f []) (sym zero) (summed_none f) }

  module _ (so : SumsSoFar f bytes rest sums) where
    module _ (left : List ℕ) (x : Record) (split : rest ≡ encoded x ++ left) where
      sums_more : (after : List ℕ) → Summed f (so.records ++ (x ∷ [])) after → SumsSoFar f bytes left after
      sums_more after summed = record { records = so.records ++ (x ∷ []); reads = reads_next bytes so.records rest left x so.reads split; summed = summed }

      pub sums_same : ((n : ℕ) → f n x ≡ 0) → SumsSoFar f bytes left sums
      sums_same none = sums_more sums (summed_same f so.records x sums so.summed (λ n h. none n))

      pub sums_next : (after : List ℕ) (i v : ℕ) → ((n : ℕ) → f n x ≡ cond (eqb i n) v 0) → (Numbered 64 i → after ≡ plus sums i v) → ((Numbered 64 i → ⊥) → after ≡ sums) → SumsSoFar f bytes left after
      sums_next after i v gives adds same = sums_more after (summed_next f so.records x sums after so.summed i v gives adds same)
