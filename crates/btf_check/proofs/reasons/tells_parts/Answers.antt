use Rattle.std.proofs.Common.{◌∙◌, IsTrue, rules, sym, subst, arith, true≢false}
use Rattle.std.proofs.lemmas.List.{map-id}
use Rattle.std.specs.Prelude.{◌↔◌}
use Rattle.std.proofs.lemmas.Result.{IfOk-weaker}
use Rattle.bip_defs.specs.Lists.{Among, AreDistinct}
use Rattle.bip_defs.proofs.Sets.{rising_distinct}
use Rattle.bip_defs.specs.Blocks.{all_cols, all_rows}
use Rattle.bip_graph.specs.Decompositions.{parts_of}
use Rattle.btf_check.specs.ReportParts.{HasOuterParts, HasSizes}
use Rattle.btf_check.specs.Reasons.{TellsParts}
use Rattle.report_reader.specs.ReportRead.{contents}
use Rattle.btf_check.proofs.Comparisons.{once_back, once_same, tells_parts, told_cols, told_outer, told_rows}
use Rattle.btf_check.proofs.reasons.tells_parts.Goals as goal

pub returns-then-not-has_outer_parts : goal.returns-then-not-has_outer_parts
returns-then-not-has_outer_parts c = (
  λ t. absurd (true≢false (sym t)),
  λ tells.
      let outer : HasOuterParts (parts_of c.args.parts.now) (contents c.args.report.now) = told_outer c.args.pattern.now (parts_of c.args.parts.now) (contents c.args.report.now) c.requires.parts tells in
      search rules,
)

pub are_once-requires-clause-below : goal.are_once-requires-clause-below
are_once-requires-clause-below c = λ x h. let lt = (c.requires.parts.square_rows.sound x (subst (Among x) (map-id c.as_slice.result.now ∙ c.as_slice.ensures.value) h)).0 in omega (arith, lt, c.rows.ensures)

pub are_once-requires-clause-distinct : goal.are_once-requires-clause-distinct
are_once-requires-clause-distinct c = subst AreDistinct (sym (map-id c.as_slice.result.now ∙ c.as_slice.ensures.value)) (rising_distinct (parts_of c.args.parts.now).square_rows c.requires.parts.square_rows.rising)

pub returns-then-not-branch : goal.returns-then-not-branch
returns-then-not-branch c = (
  λ t. absurd (true≢false (sym t)),
  λ tells. absurd (true≢false (sym (c.in_ok-are_once.ensures.1 (once_same (parts_of c.args.parts.now).square_rows (all_rows c.args.report.now.blocks) _ _ (map-id c.as_slice.result.now ∙ c.as_slice.ensures.value) (map-id c.all_rows-rows.result.now ∙ c.all_rows-rows.ensures)
      (told_rows c.args.pattern.now (parts_of c.args.parts.now) (contents c.args.report.now) c.requires.parts tells))) ∙ c.if-not-branch.true)),
)

pub are_once-requires-2-clause-below : goal.are_once-requires-2-clause-below
are_once-requires-2-clause-below c = λ x h. let lt = (c.requires.parts.square_cols.sound x (subst (Among x) (map-id c.as_slice-2.result.now ∙ c.as_slice-2.ensures.value) h)).0 in omega (arith, lt, c.cols.ensures)

pub are_once-requires-2-clause-distinct : goal.are_once-requires-2-clause-distinct
are_once-requires-2-clause-distinct c = subst AreDistinct (sym (map-id c.as_slice-2.result.now ∙ c.as_slice-2.ensures.value)) (rising_distinct (parts_of c.args.parts.now).square_cols c.requires.parts.square_cols.rising)

pub returns : goal.returns
returns c =
    let a = c.args.pattern.now in
    let p = parts_of c.args.parts.now in
    let r = contents c.args.report.now in
    let sizes : HasSizes c.args.pattern.now c.args.matching.now.pairs (contents c.args.report.now) = search rules in
    let outer : HasOuterParts (parts_of c.args.parts.now) (contents c.args.report.now) = search rules in
    let rows = once_back p.square_rows (all_rows c.args.report.now.blocks) _ _ (map-id c.as_slice.result.now ∙ c.as_slice.ensures.value) (map-id c.all_rows-rows.result.now ∙ c.all_rows-rows.ensures) (c.in_ok-are_once.ensures.0 c.if-not-branch.false) in
    let cols_are = map-id c.as_slice-2.result.now ∙ c.as_slice-2.ensures.value in
    let list_is = map-id c.all_cols-cols.result.now ∙ c.all_cols-cols.ensures in
    IfOk-weaker c.are_once-2.result _ (λ b. IsTrue b ↔ TellsParts a r) (λ b h. (
      λ t. tells_parts a c.args.matching.now.pairs p r c.requires.maximum c.requires.parts sizes (record { outer = outer; square_rows = rows; square_cols = once_back p.square_cols (all_cols c.args.report.now.blocks) _ _ cols_are list_is (h.0 t) }),
      λ tells. h.1 (once_same p.square_cols (all_cols c.args.report.now.blocks) _ _ cols_are list_is (told_cols a p r c.requires.parts tells)),
    ))
    c.are_once-2.ensures
