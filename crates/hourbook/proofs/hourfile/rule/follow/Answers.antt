use Rattle.std.proofs.Common.{sym, refl, ap, ◌+◌, ◌∙◌, true≢false}
use Rattle.hourbook.proofs.InTurn.{following_next, following_out}
use Rattle.hourbook.proofs.hourfile.rule.follow.Goals as goal

pub returns-then-not-admits-clause-first : goal.returns-then-not-admits-clause-first
returns-then-not-admits-clause-first g c =
    let steps = c.in-Some.ensures.steps in (
      c.in-Some.before + 1,
      c.fault_at.ensures,
      following_out _ _ _ _ _ _ _ c.loop-before.invariant.follows _ c.in-Some.record steps.0 _ (ap (λ k. k + 1) steps.1) (λ h.
          true≢false (sym (c.admits.ensures.test.1 h) ∙ c.if-not-admits.true)),
    )

pub loop-before-preserved : goal.loop-before-preserved
loop-before-preserved g c =
    let steps = c.in-Some.ensures.steps in
    let told = c.if-not-admits.ensures in record {
      follows = following_next _ _ _ _ _ _ _ c.loop-before.invariant.follows _ c.in-Some.record steps.0 _ _ steps.2 (told.test.0 refl) told.yes;
      ready = told.ready;
    }
