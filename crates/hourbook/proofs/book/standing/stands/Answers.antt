use Rattle.std.proofs.Common.{◌≡◌, false, reverse, sym, ap, ◌∙◌, rules, tests}
use Rattle.std.specs.List.{find}
use Rattle.std.specs.Option.{option_map}
use Rattle.std.proofs.lemmas.Iterator.Adapters.{YieldsList-from_rev_slice}
use Rattle.std.proofs.lemmas.Iterator.Search.{find_from_yields_List}
use Rattle.hourbook.proofs.Stands.{deciding, told, standing_by_last, told_by_test}
use Rattle.hourbook.proofs.book.standing.stands.Goals as goal

pub returns : goal.returns
returns c =
    let found : option_map (λ x. x.now) c.find.result ≡ find (deciding c.args.hour) (reverse c.args.entries.now) = find_from_yields_List (deciding c.args.hour) _ _ c.find.result c.find.ensures.ran (YieldsList-from_rev_slice c.args.entries.now (search rules)) (λ x b q k. search (rules, tests)) in
    let tells : c.is_some_and.result ≡ told (option_map (λ x. x.now) c.find.result) false = told_by_test (λ x. x.now) _ c.find.result c.is_some_and.result c.is_some_and.ensures (λ x p. search (rules, tests)) in
    tells ∙ (ap (λ o. told o false) found ∙ sym (standing_by_last c.args.hour c.args.entries.now))
