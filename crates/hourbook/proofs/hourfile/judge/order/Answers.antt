use Rattle.std.proofs.Common.{◌≡◌, sym, refl, inl, inr, ◌∙◌, true≢false, rules}
use Rattle.hourbook.specs.declared.hourfile.order.Phase.TheVariants.{Done}
use Rattle.hourbook.specs.Sequence.{Ordered}
use Rattle.hourbook.proofs.HandedOn.{handed_on, ok_or_told}
use Rattle.hourbook.proofs.Passing.{first_out_same, passed_weaker}
use Rattle.hourbook.proofs.Sequences.{opening_from, opening_in_order, ordered_done, ordered_from, ordered_heads}
use Rattle.hourbook.proofs.hourfile.judge.order.Goals as goal

pub returns-in_err-phase-clause-rule : goal.returns-in_err-phase-clause-rule
returns-in_err-phase-clause-rule c =
    let told = c.in_err-phase.ensures.first in
    handed_on _ _ _ _ c.from_residual.ensures.1 (told.0, told.1, inl (first_out_same _ _ _ _ opening_from opening_in_order told.2))

pub returns-then-ne-clause-rule : goal.returns-then-ne-clause-rule
returns-then-ne-clause-rule c =
    let not_done : c.in_ok-phase.phase ≡ Done → ⊥ = λ e. true≢false (c.if-ne.ensures ∙ rw e refl) in
    (0, refl, inr (refl, passed_weaker _ _ _ (λ rs h. (opening_from rs h.0, λ o. not_done (sym h.1 ∙ ordered_done rs o))) c.in_ok-phase.ensures.first))

pub returns-clause-rule : goal.returns-clause-rule
returns-clause-rule c =
    let done : c.in_ok-phase.phase ≡ Done = search rules in
    let s = c.in_ok-phase.ensures.first in
    let ordered : Ordered s.records = ordered_from s.records s.keeps.0 (s.keeps.1 ∙ done) in
    let headed = ordered_heads s.records _ _ ordered s.reads in
    rw c.ok_or.ensures.value (ok_or_told c.leading_header.result _ _ _ c.leading_header.ensures (λ none. absurd (none headed.0 headed.1)) (λ h begins. (passed_weaker _ _ _ (λ rs told. ordered_from rs told.0 (told.1 ∙ done)) s, begins)))
