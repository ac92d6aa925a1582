use Rattle.std.proofs.Common.{inl, inr}
use Rattle.hourbook.proofs.HandedOn.{handed_on}
use Rattle.hourbook.proofs.hourfile.judge.judge.Goals as goal

pub returns-in_err-names-clause-rules : goal.returns-in_err-names-clause-rules
returns-in_err-names-clause-rules c =
    handed_on _ _ _ _ c.from_residual-in_err-names.ensures.1 (record { rule = inr (inr (inr (inr (inl (c.in_ok-census.census, c.in_ok-census.ensures.rules, c.in_err-names.ensures.rule))))) })

pub returns-in_err-contributions-clause-rules : goal.returns-in_err-contributions-clause-rules
returns-in_err-contributions-clause-rules c =
    handed_on _ _ _ _ c.from_residual-in_err-contributions.ensures.1 (record { rule = inr (inr (inr (inr (inr (inl (c.in_ok-census.census, c.in_ok-census.ensures.rules, c.in_ok-names.ensures.rule, c.in_err-contributions.ensures.rule)))))) })

pub returns-in_err-keys-clause-rules : goal.returns-in_err-keys-clause-rules
returns-in_err-keys-clause-rules c =
    handed_on _ _ _ _ c.from_residual-in_err-keys.ensures.1 (record { rule = inr (inr (inr (inr (inr (inr (c.in_ok-census.census, c.in_ok-census.ensures.rules, c.in_ok-names.ensures.rule, c.in_ok-contributions.ensures.rule, c.in_err-keys.ensures.rule)))))) })
