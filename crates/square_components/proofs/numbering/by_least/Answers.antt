use Rattle.std.proofs.Common.{◌≡◌, ◌-◌, ◌∙◌, length, get_or, replicate, refl, ap, sym, subst, arith, rules, true≢false}
use Rattle.bip_defs.specs.Matrix.{cols}
use Rattle.bip_defs.proofs.Sets.{written_over}
use Rattle.bip_graph.specs.Matching.{none}
use Rattle.square_components.specs.Found.{finished_at}
use Rattle.square_components.specs.Renumbering.{Gives}
use Rattle.square_components.proofs.NumberingLemmas.{AreLabelled, AreWritten, have_mates, labelled_few, next_col_in, next_finished, next_labelled, next_matched, next_numbers, next_of_part, next_read, next_row_in, next_written, none_labelled, none_written, told_same, written_falls, written_least, written_mates}
use Rattle.square_components.proofs.numbering.by_least.Goals as goal
use Rattle.square_components.proofs.numbering.by_least.Goals.{then-in_order, else-in_order}

pub loop-place-init : goal.loop-place-init
loop-place-init g c = record {
  written = none_written _ _ _ _ _ _ refl (c.in_ok-of_cols.ensures.items_if_clones_equal (λ y e. e) ∙ ap (λ n. replicate n none) c.cols.ensures);
  labelled = none_labelled _ _ _ _ _ (c.in_ok-anew.ensures.items_if_clones_equal (λ y e. e));
  in_order = λ on i lt. absurd (omega (arith, lt));
}

pub row_of-requires : goal.row_of-requires
row_of-requires g c =
    let h = have_mates _ _ _ _ _ c.requires.part.maximum c.requires.part.square_cols c.requires.found in
    next_matched _ _ _ _ _ _ h (omega (arith, c.loop-place-test.true, c.len-place-end.ensures, c.requires.part.same)) c.col_at-col.ensures

pub index-requires : goal.index-requires
index-requires g c =
    let (h, n) = next_of_part _ _ _ _ _ _ _ _ _ _ _ _ c.requires.part c.requires.found c.loop-place-test.true c.len-place-end.ensures refl c.col_at-col.ensures c.row.view_is c.row_of.ensures in
    let lt = next_row_in _ _ _ _ _ _ _ h n in
    let long = c.loop-place.invariant.written.long_rows in
    omega (arith, lt, long)

pub index_mut-requires : goal.index_mut-requires
index_mut-requires g c =
    let (h, n) = next_of_part _ _ _ _ _ _ _ _ _ _ _ _ c.requires.part c.requires.found c.loop-place-test.true c.len-place-end.ensures c.col.view_is c.col_at-col.ensures c.row.view_is c.row_of.ensures in
    let lt = next_col_in _ _ _ _ _ _ _ h n in
    let long = c.loop-place.invariant.written.long_cols in
    omega (arith, lt, long)

pub index_mut-requires-in-loop-place : goal.index_mut-requires-in-loop-place
index_mut-requires-in-loop-place g c =
    let (h, n) = next_of_part _ _ _ _ _ _ _ _ _ _ _ _ c.requires.part c.requires.found c.loop-place-test.true c.len-place-end.ensures c.col.view_is c.col_at-col.ensures c.row.view_is c.row_of.ensures in
    let lt = next_row_in _ _ _ _ _ _ _ h n in
    let long = c.loop-place.invariant.written.long_rows in
    omega (arith, lt, long)

pub given-number-requires-clause-number : goal.given-number-requires-clause-number
given-number-requires-clause-number g c =
    let (h, n) = next_of_part _ _ _ _ _ _ _ _ _ _ _ _ c.requires.part c.requires.found c.loop-place-test.true c.len-place-end.ensures refl c.col_at-col.ensures c.row.view_is c.row_of.ensures in
    let read = next_read _ _ _ _ _ _ _ _ _ _ h c.loop-place.invariant.written n c.index.ensures in
    let low = next_finished _ _ _ c.args.found.0.items _ _ c.requires.part.square_cols c.requires.found n.inside in
    let wide = c.loop-place.invariant.labelled.given.wide in
    let value = c.as_mut_slice.ensures.value in
    let is : none - c.index.result.now ≡ finished_at (g.S.SquarePart.pairs c.args.part) c.args.found.0.items (get_or (g.S.SquarePart.cols c.args.part) c.loop-place.place 0) = ap (λ x. none - x) read in
    let all : length c.as_mut_slice.result.now ≡ length c.loop-place.anew.items = ap length value in
    omega (arith, is, low, wide, all)

pub given-number-requires-clause-next : goal.given-number-requires-clause-next
given-number-requires-clause-next g c =
    let (h, n) = next_of_part _ _ _ _ _ _ _ _ _ _ _ _ c.requires.part c.requires.found c.loop-place-test.true c.len-place-end.ensures refl c.col_at-col.ensures c.row.view_is c.row_of.ensures in
    labelled_few _ _ _ _ _ _ _ _ c.loop-place.invariant.labelled n.inside h.few c.requires.found.few_cols

pub loop-place-preserved : goal.loop-place-preserved
loop-place-preserved g c =
    let pairs = g.S.SquarePart.pairs c.args.part in
    let listed = g.S.SquarePart.cols c.args.part in
    let (h, n) = next_of_part _ _ _ _ _ _ _ _ _ _ _ _ c.requires.part c.requires.found c.loop-place-test.true c.len-place-end.ensures c.col.view_is c.col_at-col.ensures c.row.view_is c.row_of.ensures in
    let w = c.loop-place.invariant.written in
    let read = next_read _ _ _ _ _ _ _ _ _ _ h w n c.index.ensures in
    let low = next_finished _ _ _ c.args.found.0.items _ _ c.requires.part.square_cols c.requires.found n.inside in
    let is : none - c.index.result.now ≡ finished_at pairs c.args.found.0.items (get_or listed c.loop-place.place 0) = ap (λ x. none - x) read in
    let value = c.as_mut_slice.ensures.value in
    let gives = subst (λ xs. Gives (none - c.index.result.now) xs c.loop-place.count c.given-number.result c.given-number.new.anew c.given-number.new.next) value c.given-number.ensures in
    let long = c.given-number.auto.anew ∙ ap length value in
    let labels = next_labelled _ _ _ _ _ _ _ _ _ (finished_at pairs c.args.found.0.items) _ _ _ _ _ _ _ h w n c.requires.found.few_cols is (omega (arith, is, low)) c.loop-place.invariant.labelled gives in
    record {
      written = next_written _ _ _ _ _ _ _ _ _ _ h w n;
      labelled = rw (written_over c.given-number.new.anew c.loop-place.anew.items c.loop-place.anew.len long (search rules)) labels;
      in_order = elim c.if-in_order.branch [
        | then-in_order v ↦ λ on. next_numbers _ _ _ _ _ _ _ _ _ _ (λ i. finished_at pairs c.args.found.0.items (get_or listed i 0)) h w n
            (c.loop-place.invariant.in_order v.if-in_order.true) (told_same _ _ (sym v.in_order-is ∙ on) ∙ is)
        | else-in_order v ↦ λ on. absurd (true≢false (sym on ∙ v.in_order-is ∙ v.if-in_order.false))
      ];
    }

pub returns : goal.returns
returns g c =
    let a = g.C.ColumnLists.matrix c.args.columns in
    let pairs = g.S.SquarePart.pairs c.args.part in
    let listed = g.S.SquarePart.cols c.args.part in
    let end : c.loop-place.place ≡ length listed = omega (arith, c.loop-place-test.false, c.loop-place.auto.place-end, c.len-place-end.ensures, c.requires.part.same) in
    let w = subst (λ k. AreWritten pairs listed c.args.found.0.items (cols a) k c.loop-place.of_rows.items c.loop-place.of_cols.items) end c.loop-place.invariant.written in
    let s = subst (λ k. AreLabelled (finished_at pairs c.args.found.0.items) listed c.args.found.1 k c.loop-place.of_cols.items c.loop-place.anew.items c.loop-place.count) end c.loop-place.invariant.labelled in
    record {
      columns = written_least _ _ _ _ _ _ _ _ _ c.requires.part.maximum c.requires.part.square_cols c.requires.found w s;
      rows = written_mates _ _ _ _ _ _ _ c.requires.part.maximum c.requires.part.square_cols c.requires.found w;
      in_order = λ on. written_falls _ _ _ _ _ _ _ c.requires.part.maximum c.requires.part.square_cols c.requires.found w (λ i lt. c.loop-place.invariant.in_order on i (omega (arith, lt, end)));
    }
