use Rattle.std.proofs.Common.{◌≡◌, ◌∙◌, rules, refl, sym, subst, true≢false}
use Rattle.bip_defs.specs.Matching.{IsMaximum}
use Rattle.bip_defs.specs.Parts.{ArePartsOf}
use Rattle.bip_graph.specs.Matching.{IsMatchingOf}
use Rattle.bip_graph.specs.Decompositions.{parts_of}
use Rattle.btf_check.specs.Reasons.{ArePaired, TellsBlocks}
use Rattle.report_reader.specs.ReportRead.{contents}
use Rattle.btf_check.proofs.Comparisons.{all_met, first_blocks, first_components, tells_blocks, told_blocks}
use Rattle.btf_check.proofs.ReasonLemmas.{report_of_met}
use Rattle.btf_check.proofs.PairLemmas.{paired_matching}
use Rattle.btf_check.proofs.reasons.judge_report.Goals as goal
use Rattle.btf_check.proofs.reasons.judge_report.Goals.{then-not-same_blocks-via-then-not-same_blocks, then-not-same_blocks-via-else-not-same_blocks+then-not-has_orders}

pub coarse_if_maximum-requires : goal.coarse_if_maximum-requires
coarse_if_maximum-requires g c =
    let same : c.in-Some.matching.pairs ≡ c.as_slice.result.now = search rules in
    let paired : ArePaired c.args.pattern.now c.as_slice.result.now = search rules in
    let k : IsMatchingOf c.args.pattern.now c.in-Some.matching = record {
      rows = search rules;
      cols = search rules;
      matching = paired_matching c.args.pattern.now c.in-Some.matching.pairs c.args.report.now.pairs.items (same ∙ c.as_slice.ensures.value) c.requires.rising (subst (ArePaired c.args.pattern.now) c.as_slice.ensures.value paired);
    } in
    (search rules, k)

pub returns-then-not-same_blocks : goal.returns-then-not-same_blocks
returns-then-not-same_blocks g c =
    let same : c.in-Some.matching.pairs ≡ c.as_slice.result.now = search rules in
    let paired : ArePaired c.args.pattern.now c.as_slice.result.now = search rules in
    let max : IsMaximum c.args.pattern.now c.in-Some.matching.pairs = search rules in
    let parts = c.in_ok-tells_parts.ensures.0 c.if-not-branch.false in
    let are : ArePartsOf c.args.pattern.now (parts_of c.in-Some-2.parts) = search rules in
    let none : ¬ TellsBlocks c.args.pattern.now (contents c.args.report.now) =
    elim c.then-not-same_blocks.branch [
      | then-not-same_blocks-via-then-not-same_blocks w ↦ λ tells. true≢false (sym (c.same_blocks.ensures.1 (told_blocks c.args.pattern.now c.in-Some.matching.pairs (parts_of c.in-Some-2.parts) (contents c.args.report.now) c.in_ok-blocks.blocks max are c.in_ok-blocks.ensures tells)) ∙ w.if-not-same_blocks.true)
      | then-not-same_blocks-via-else-not-same_blocks+then-not-has_orders w ↦ λ tells. true≢false (sym (w.has_orders.ensures.1 tells.orders) ∙ w.if-not-has_orders.true)
    ] in
    first_blocks c.args.pattern.now (contents c.args.report.now) c.args.report.now.pairs.items refl (subst (ArePaired c.args.pattern.now) c.as_slice.ensures.value paired) (subst (IsMaximum c.args.pattern.now) (same ∙ c.as_slice.ensures.value) max) parts none

pub returns-then-not-branch-2 : goal.returns-then-not-branch-2
returns-then-not-branch-2 g c =
    let same : c.in-Some.matching.pairs ≡ c.as_slice.result.now = search rules in
    let paired : ArePaired c.args.pattern.now c.as_slice.result.now = search rules in
    let max : IsMaximum c.args.pattern.now c.in-Some.matching.pairs = search rules in
    let parts = c.in_ok-tells_parts.ensures.0 c.if-not-branch.false in
    let blocks = tells_blocks c.args.pattern.now (contents c.args.report.now) c.in_ok-blocks.blocks c.in_ok-blocks.ensures (c.same_blocks.ensures.0 c.if-not-same_blocks.false) (c.has_orders.ensures.0 c.if-not-has_orders.false) in
    first_components c.args.pattern.now (contents c.args.report.now) c.args.report.now.pairs.items refl (subst (ArePaired c.args.pattern.now) c.as_slice.ensures.value paired) (subst (IsMaximum c.args.pattern.now) (same ∙ c.as_slice.ensures.value) max) parts blocks (λ told. true≢false (sym (c.in_ok-tells_components.ensures.1 told) ∙ c.if-not-branch-2.true))

pub returns : goal.returns
returns g c =
    let same : c.in-Some.matching.pairs ≡ c.as_slice.result.now = search rules in
    let paired : ArePaired c.args.pattern.now c.as_slice.result.now = search rules in
    let max : IsMaximum c.args.pattern.now c.in-Some.matching.pairs = search rules in
    let parts = c.in_ok-tells_parts.ensures.0 c.if-not-branch.false in
    let components = c.in_ok-tells_components.ensures.0 c.if-not-branch-2.false in
    let blocks = tells_blocks c.args.pattern.now (contents c.args.report.now) c.in_ok-blocks.blocks c.in_ok-blocks.ensures (c.same_blocks.ensures.0 c.if-not-same_blocks.false) (c.has_orders.ensures.0 c.if-not-has_orders.false) in
    report_of_met c.args.pattern.now (contents c.args.report.now) c.args.report.now.pairs.items refl c.requires.rising (all_met c.args.pattern.now (contents c.args.report.now) c.args.report.now.pairs.items refl (subst (ArePaired c.args.pattern.now) c.as_slice.ensures.value paired) (subst (IsMaximum c.args.pattern.now) (same ∙ c.as_slice.ensures.value) max) parts blocks components)
