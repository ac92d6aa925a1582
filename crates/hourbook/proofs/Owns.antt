-- The lines of one owner's entries, one after another. Assumes nothing.
use Rattle.std.proofs.Common.{◌≡◌, ℕ, ◌+◌, ◌<◌, ◌≤◌, eqb, List, ◌++◌, length, get_or, drop, pos, ap, ◌∙◌, subst}
use Rattle.std.specs.List.{flat_map}
use Rattle.std.proofs.lemmas.List.{at_drop_more, at_drop_all, append_assoc}
use Rattle.std.proofs.lemmas.Bool.{eq-eqb, ne_eqb, cond-true, cond-false}
use Rattle.hourbook.proofs.Sinking.{Underway}
use Rattle.hourbook.specs.declared.entry.row.Row.{Row}
use Rattle.hourbook.specs.Statements.{own, entry_line}
use Rattle.hourbook.specs.declared.entry.kind.EntryKind.TheVariants.{Credit}

-- what a read past the end gives
abbrev pub blank : Row
blank = record { kind = Credit; hour = 0; region = 0; line = 0; leg = 0; owner = 0; amount = pos 0 }

-- the lines still to come from the i-th entry on, and then the tail
module _ {S : Type 0} {has_room : S → ℕ → Type 0} {took : S → List ℕ → S → Type 0} {a b : S} {text : List ℕ} (tail : List ℕ) (owner : ℕ) (es : List Row) (i : ℕ) (s : Underway has_room took a b text (flat_map entry_line (own owner (drop i es)) ++ tail)) where
  abbrev to_come : List Row → List ℕ
  to_come t = flat_map entry_line (own owner t) ++ tail

  abbrev lines : List Row → List ℕ
  lines t = flat_map entry_line t ++ tail

  pub lines_yes : i < length es → (get_or es i blank).owner ≡ owner → Underway has_room took a b text (entry_line (get_or es i blank) ++ (flat_map entry_line (own owner (drop (i + 1) es)) ++ tail))
  lines_yes h e =
      subst (Underway has_room took a b text)
      (at_drop_more to_come es i blank h
      ∙ (ap lines (cond-true (eqb (get_or es i blank).owner owner) _ _ (eq-eqb _ _ e))
      ∙ append_assoc (entry_line (get_or es i blank)) (flat_map entry_line (own owner (drop (i + 1) es))) tail))
      s

  pub lines_no : i < length es → ((get_or es i blank).owner ≡ owner → ⊥) → Underway has_room took a b text (flat_map entry_line (own owner (drop (i + 1) es)) ++ tail)
  lines_no h ne =
      subst (Underway has_room took a b text)
      (at_drop_more to_come es i blank h ∙ ap lines (cond-false (eqb (get_or es i blank).owner owner) _ _ (ne_eqb _ _ ne)))
      s

  pub lines_none : length es ≤ i → Underway has_room took a b text tail
  lines_none h = subst (Underway has_room took a b text) (at_drop_all to_come es i h) s
