use Rattle.std.proofs.Common.{◌≡◌, length, vec_items, vec_len, ap, ◌∙◌, subst, arith}
use Rattle.std.specs.List.{flat_map}
use Rattle.std.proofs.lemmas.List.{with_items_is}
use Rattle.std.proofs.lemmas.Result.{IfOk-weaker}
use Rattle.hourbook.specs.declared.hourfile.loss_table.LossTable.{LossTable}
use Rattle.hourbook.specs.declared.hourfile.network.Network.{Network}
use Rattle.hourbook.specs.declared.hourfile.prices.Prices.{Prices}
use Rattle.hourbook.specs.declared.region.coordinated.Coordinated.{Coordinated}
use Rattle.hourbook.specs.Coordinated.{coordinated_means}
use Rattle.hourbook.specs.Hours.{Posted, page_of}
use Rattle.hourbook.specs.LossRule.{losses_means}
use Rattle.hourbook.specs.Meaning.{Meaning}
use Rattle.hourbook.specs.Tables.{cents_of, tenths_of}
use Rattle.hourbook.proofs.hour.stated.Goals as goal

abbrev below_means : Coordinated → Meaning
below_means b = coordinated_means (cents_of (vec_items b.prices.now.list)) (tenths_of (vec_items b.network.now.positions)) (vec_items b.network.now.borders) b.verdict

-- the layered region means what its tables say
layered : (held below : Coordinated) (kept table : LossTable) (n : Network) (p : Prices) → held ≡ below → kept ≡ table → below.network.now ≡ n → below.prices.now ≡ p
    → losses_means (vec_items kept.losses) (below_means held) ≡ losses_means (vec_items table.losses) (coordinated_means (cents_of (vec_items p.list)) (tenths_of (vec_items n.positions)) (vec_items n.borders) below.verdict)
layered held below kept table n p e f g h =
    ap (λ t. losses_means (vec_items t.losses) (below_means held)) f
    ∙ (ap (λ b. losses_means (vec_items table.losses) (below_means b)) e
    ∙ (ap (λ x. losses_means (vec_items table.losses) (coordinated_means (cents_of (vec_items x.list)) (tenths_of (vec_items below.network.now.positions)) (vec_items below.network.now.borders) below.verdict)) h
    ∙ ap (λ x. losses_means (vec_items table.losses) (coordinated_means (cents_of (vec_items p.list)) (tenths_of (vec_items x.positions)) (vec_items x.borders) below.verdict)) g))

pub returns : goal.returns
returns c =
    let below = c.in_ok-below.below in
    let told = rw c.in_ok-below.ensures.ok_part at c.new.ensures in
    let file = c.args.file in
    let used = c.in_ok-book.book.used in
    let before = c.deref_mut.result.now in
    let after = c.posted.new.memory in
    let same = layered c.over-region.result.below below c.over-region.result.table file.losses file.network file.prices c.over-region.ensures.0 c.over-region.ensures.1 told.0 told.1 in
    let long : length after ≡ vec_len c.in_ok-memory.memory = omega (arith, c.posted.auto.memory, c.deref_mut.ensures.len) in
    let posted = subst (λ m. Posted m file.ownership file.hour used before after) same c.in_ok-book.ensures in
    let memory = c.deref.ensures.value ∙ with_items_is c.in_ok-memory.memory after long in
    IfOk-weaker c.pages.result _ _ (λ t pages. record {
      verdict = below.verdict;
      judged = told.2;
      used = used;
      before = before;
      after = after;
      posted = posted;
      stated =
          pages
          ∙ (ap (λ m. flat_map (page_of used m) c.deref-2.result.now) memory
          ∙ ap (flat_map (page_of used after)) c.deref-2.ensures.value);
    }) c.pages.ensures
