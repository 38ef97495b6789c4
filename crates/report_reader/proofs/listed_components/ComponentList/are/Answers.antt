use Rattle.std.proofs.Common.{◌∙◌, ap, eqb-true, eq-eqb, sym, true≢false}
use Rattle.std.proofs.lemmas.Slice.Eq.{slice_eq-Decides}
use Rattle.bip_defs.specs.Blocks.{all_cols, all_rows}
use Rattle.report_reader.proofs.ComponentArrays.{same}
use Rattle.report_reader.proofs.listed_components.ComponentList.are.Goals as goal

pub returns-then-not-same_rows : goal.returns-then-not-same_rows
returns-then-not-same_rows c =
    let rows = slice_eq-Decides (λ x y. (eqb-true x y, eq-eqb x y)) c.all_rows.result.now c.all_rows-2.result.now c.eq-same_rows.result c.eq-same_rows.ensures in
    (λ t. absurd (true≢false (sym t)), λ e. absurd (true≢false (sym (rows.1 (c.all_rows.ensures ∙ ap all_rows e ∙ sym c.all_rows-2.ensures)) ∙ c.if-not-same_rows.true)))

pub returns : goal.returns
returns c =
    let sizes = c.have_sizes_of.ensures.0 c.if-not-have_sizes_of.false in
    let rows = slice_eq-Decides (λ x y. (eqb-true x y, eq-eqb x y)) c.all_rows.result.now c.all_rows-2.result.now c.eq-same_rows.result c.eq-same_rows.ensures in
    let cols = slice_eq-Decides (λ x y. (eqb-true x y, eq-eqb x y)) c.all_cols.result.now c.all_cols-2.result.now c.eq.result c.eq.ensures in (
      λ t. same c.args.self.now c.args.components.now sizes.0 sizes.1 (sym c.all_rows.ensures ∙ rows.0 c.if-not-same_rows.false ∙ c.all_rows-2.ensures) (sym c.all_cols.ensures ∙ cols.0 t ∙ c.all_cols-2.ensures),
      λ e. cols.1 (c.all_cols.ensures ∙ ap all_cols e ∙ sym c.all_cols-2.ensures),
    )
