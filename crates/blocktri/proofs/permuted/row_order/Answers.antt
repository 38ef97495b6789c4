use Rattle.std.proofs.Common.{◌<◌, ℕ, List, arith, refl, subst, sym}
use Rattle.bip_defs.specs.Lists.{Among}
use Rattle.bip_defs.specs.Matching.{cols_of, rows_of}
use Rattle.bip_defs.proofs.Slices.{read_at}
use Rattle.blocktri.specs.BlockForms.{decomposition_of}
use Rattle.blocktri.proofs.PermutedLemmas.{columns_behind, grows_from, has_mate, mate_pushed, row_order_told}
use Rattle.blocktri.proofs.permuted.row_order.Goals as goal

pub overflow_step-k : goal.overflow_step-k
overflow_step-k c =
    let (a, form, order) = c.requires in
    let behind = columns_behind a (decomposition_of c.args.form.now) c.args.matching.now.pairs c.args.columns.now form.maximum.maximum c.size.ensures.cols_rise order in
    let few = behind.few in
    let wide = behind.wide in
    let size = c.size.ensures.size in
    omega (arith, few, wide, size)

pub mate-requires : goal.mate-requires
mate-requires c =
    let (a, form, order) = c.requires in
    let behind = columns_behind a (decomposition_of c.args.form.now) c.args.matching.now.pairs c.args.columns.now form.maximum.maximum c.size.ensures.cols_rise order in
    let from = c.loop-k.auto.k in
    let size = c.size.ensures.size in
    let lt = c.loop-k-test.true in
    subst (λ (e : ℕ). Among e (cols_of c.args.matching.now.pairs)) (sym (read_at c.index-columns-k.result 0 c.args.columns.now c.loop-k.k lt c.index-columns-k.is))
    (has_mate a (decomposition_of c.args.form.now) c.args.matching.now.pairs c.args.columns.now c.loop-k.k behind (omega (arith, from, size)) lt)

pub loop-k-preserved : goal.loop-k-preserved
loop-k-preserved c = mate_pushed c.args.matching.now.pairs c.args.columns.now c.loop-k.rows.items c.push.new.self.items c.loop-k.k c.mate.result c.index-columns-k.result c.loop-k-test.true c.index-columns-k.is c.mate.ensures.row c.in_ok-push.ensures.items c.loop-k.invariant

pub push_unmatched_rows-requires-clause-within : goal.push_unmatched_rows-requires-clause-within
push_unmatched_rows-requires-clause-within c =
    let (a, form, order) = c.requires in
    λ r h. subst (λ (n : ℕ). r < n) (sym form.maximum.matching.rows) (form.form.decomposition.parts.vertical_rows.sound r (subst (λ (ys : List ℕ). Among r ys) c.as_slice.ensures.value h)).0

pub returns : goal.returns
returns c = λ a form order.
    let d = decomposition_of c.args.form.now in
    let m = c.args.matching.now.pairs in
    let q = c.args.columns.now in
    let behind = columns_behind a d m q form.maximum.maximum c.size.ensures.cols_rise order in
    let few = behind.few in
    let wide = behind.wide in
    let size = c.size.ensures.size in
    let end = c.loop-k-test.false in
    let grown = grows_from (λ r. ¬ Among r (rows_of m)) d.parts.vertical_rows c.as_slice.result.now c.loop-k.rows.items c.loop-k.rows.items c.push_unmatched_rows.new.rows.items c.as_slice.ensures.value refl c.in_ok-push_unmatched_rows.ensures in
    row_order_told a d m q c.loop-k.rows.items c.push_unmatched_rows.new.rows.items c.loop-k.k form.form.decomposition form.maximum.maximum behind end (c.loop-k.auto.k-end (omega (arith, few, wide, size))) c.loop-k.invariant grown
