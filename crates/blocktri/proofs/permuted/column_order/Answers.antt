use Rattle.std.proofs.Common.{◌↔◌, ◌∙◌, ◌<◌, ◌++◌, [], false, true, ℕ, IsTrue, List, ap, refl, subst, sym}
use Rattle.bip_defs.specs.Blocks.{all_cols}
use Rattle.bip_defs.specs.Lists.{Among}
use Rattle.bip_defs.specs.Matching.{cols_of}
use Rattle.blocktri.specs.BlockForms.{decomposition_of}
use Rattle.blocktri.proofs.PermutedLemmas.{column_order_told, grows_from}
use Rattle.blocktri.proofs.permuted.column_order.Goals as goal

pub push_columns-requires-clause-within : goal.push_columns-requires-clause-within
push_columns-requires-clause-within c =
    let (a, form) = c.requires in
    λ e h. subst (λ (n : ℕ). e < n) (sym form.maximum.matching.cols) (form.form.decomposition.parts.horizontal_cols.sound e (subst (λ (ys : List ℕ). Among e ys) c.as_slice.ensures.value h)).0

pub push_columns-requires-2-clause-within : goal.push_columns-requires-2-clause-within
push_columns-requires-2-clause-within c =
    let (a, form) = c.requires in
    λ e h. subst (λ (n : ℕ). e < n) (sym form.maximum.matching.cols) (form.form.decomposition.parts.horizontal_cols.sound e (subst (λ (ys : List ℕ). Among e ys) c.as_slice-2.ensures.value h)).0

pub returns : goal.returns
returns c = λ a form.
    let d = decomposition_of c.args.form.now in
    let m = c.args.matching.now.pairs in
    let first = grows_from (λ e. IsTrue false ↔ Among e (cols_of m)) d.parts.horizontal_cols c.as_slice.result.now c.in_ok-columns.columns.items [] c.push_columns.new.columns.items c.as_slice.ensures.value c.in_ok-columns.ensures.items c.in_ok-push_columns.ensures in
    let second = grows_from (λ e. IsTrue true ↔ Among e (cols_of m)) d.parts.horizontal_cols c.as_slice-2.result.now c.push_columns.new.columns.items c.push_columns.new.columns.items c.push_columns-2.new.columns.items c.as_slice-2.ensures.value refl c.in_ok-push_columns-2.ensures in
    column_order_told a d m c.push_columns.new.columns.items c.push_columns-2.new.columns.items c.extend_from_slice-2.new.self.items form.form.decomposition (c.orders_are_block_upper_triangular.ensures.cols_once a d form.form.decomposition) first second
    (c.in_ok-extend_from_slice-2.ensures.items ∙ ap (λ (ys : List ℕ). ys ++ c.as_slice-3.result.now) (c.in_ok-extend_from_slice.ensures.items ∙ ap (λ (ys : List ℕ). c.push_columns-2.new.columns.items ++ ys) c.all_cols.ensures)
    ∙ ap (λ (ys : List ℕ). c.push_columns-2.new.columns.items ++ all_cols d.blocks ++ ys) c.as_slice-3.ensures.value)
