-- Standing, told by the last entry that decides. Assumes nothing.
use Rattle.std.proofs.Common.{◌≡◌, ℕ, Bool, true, false, cond, ◌&&◌, eqb, List, [], ◌∷◌, reverse, fold, Option, Some, None, refl, sym, ap, ◌∙◌}
use Rattle.std.specs.List.{find}
use Rattle.std.specs.Option.{MatchOption, option_map, option_or}
use Rattle.std.proofs.lemmas.List.{reverse-append}
use Rattle.std.proofs.lemmas.List.Folds.{find-append}
use Rattle.hourbook.specs.declared.entry.kind.EntryKind.{EntryKind}
use Rattle.hourbook.specs.declared.entry.kind.EntryKind.TheVariants.{Credit, TakenBack, Payment}
use Rattle.hourbook.specs.declared.entry.row.Row.{Row}
use Rattle.hourbook.specs.Standing.{after, decides, turn, standing}

-- an entry of the hour that decides
abbrev pub deciding : ℕ → Row → Bool
deciding hour e = eqb e.hour hour && decides e.kind

-- what that entry tells, and s where there is none
abbrev pub told : Option Row → Bool → Bool
told None s = s
told (Some e) s = after e.kind false

module _ (hour : ℕ) where
  by_kind : (b : Bool) (e : Row) (k : EntryKind) (s : Bool) → e.kind ≡ k → cond b (after k s) s ≡ told (cond (b && decides k) (Some e) None) s
  by_kind false e k s h = refl
  by_kind true e Credit s h = sym (ap (λ x. after x false) h)
  by_kind true e TakenBack s h = sym (ap (λ x. after x false) h)
  by_kind true e Payment s h = refl

  one_before : (o : Option Row) (e : Row) (s : Bool) → told o (turn hour s e) ≡ told (option_or o (find (deciding hour) (e ∷ []))) s
  one_before None e s = by_kind (eqb e.hour hour) e e.kind s refl
  one_before (Some x) e s = refl

  told_from : (es : List Row) (s : Bool) → fold (turn hour) s es ≡ told (find (deciding hour) (reverse es)) s
  told_from [] s = refl
  told_from (e ∷ es) s =
      told_from es (turn hour s e)
      ∙ (one_before (find (deciding hour) (reverse es)) e s
      ∙ (ap (λ o. told o s) (sym (find-append (deciding hour) (reverse es) (e ∷ [])))
      ∙ ap (λ xs. told (find (deciding hour) xs) s) (sym (reverse-append (e ∷ []) es))))

  pub standing_by_last : (es : List Row) → standing hour es ≡ told (find (deciding hour) (reverse es)) false
  standing_by_last es = told_from es false

-- what a test of that entry answers
pub told_by_test : {A : Type 0} (now : A → Row) (P : A → Type 0) (o : Option A) (r : Bool) → MatchOption o (r ≡ false) P → ((x : A) → P x → r ≡ after (now x).kind false) → r ≡ told (option_map now o) false
told_by_test now P None r m f = m
told_by_test now P (Some x) r m f = f x m
