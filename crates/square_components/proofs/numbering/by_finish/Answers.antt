use Rattle.std.proofs.Common.{◌≡◌, ◌-◌, ◌∙◌, length, get_or, replicate, refl, ap, subst, arith}
use Rattle.bip_defs.specs.Matrix.{cols}
use Rattle.bip_graph.specs.Matching.{none}
use Rattle.square_components.specs.Found.{finished_at}
use Rattle.square_components.proofs.NumberingLemmas.{AreWritten, have_mates, next_col_in, next_matched, next_numbers, next_of_part, next_read, next_row_in, next_written, none_written, written_mates, written_numbered}
use Rattle.square_components.proofs.numbering.by_finish.Goals as goal

pub loop-place-init : goal.loop-place-init
loop-place-init g c = record {
  written = none_written _ _ _ _ _ _ refl (c.in_ok-of_cols.ensures.items_if_clones_equal (λ y e. e) ∙ ap (λ n. replicate n none) c.cols.ensures);
  numbers = λ i lt. absurd (omega (arith, lt));
}

pub row_of-requires : goal.row_of-requires
row_of-requires g c =
    let h = have_mates _ _ _ _ _ c.requires.part.maximum c.requires.part.square_cols c.requires.found in
    next_matched _ _ _ _ _ _ h (omega (arith, c.loop-place-test.true, c.len-place-end.ensures, c.requires.part.same)) c.col_at-col.ensures

pub index-requires : goal.index-requires
index-requires g c =
    let (h, n) = next_of_part _ _ _ _ _ _ _ _ _ _ _ _ c.requires.part c.requires.found c.loop-place-test.true c.len-place-end.ensures refl c.col_at-col.ensures c.row.view_is c.row_of.ensures in
    let lt = next_row_in _ _ _ _ _ _ _ h n in
    let long = c.loop-place.invariant.written.long_rows in
    omega (arith, lt, long)

pub index_mut-requires : goal.index_mut-requires
index_mut-requires g c =
    let (h, n) = next_of_part _ _ _ _ _ _ _ _ _ _ _ _ c.requires.part c.requires.found c.loop-place-test.true c.len-place-end.ensures c.col.view_is c.col_at-col.ensures c.row.view_is c.row_of.ensures in
    let lt = next_col_in _ _ _ _ _ _ _ h n in
    let long = c.loop-place.invariant.written.long_cols in
    omega (arith, lt, long)

pub index_mut-requires-in-loop-place : goal.index_mut-requires-in-loop-place
index_mut-requires-in-loop-place g c =
    let (h, n) = next_of_part _ _ _ _ _ _ _ _ _ _ _ _ c.requires.part c.requires.found c.loop-place-test.true c.len-place-end.ensures c.col.view_is c.col_at-col.ensures c.row.view_is c.row_of.ensures in
    let lt = next_row_in _ _ _ _ _ _ _ h n in
    let long = c.loop-place.invariant.written.long_rows in
    omega (arith, lt, long)

pub loop-place-preserved : goal.loop-place-preserved
loop-place-preserved g c =
    let pairs = g.S.SquarePart.pairs c.args.part in
    let listed = g.S.SquarePart.cols c.args.part in
    let (h, n) = next_of_part _ _ _ _ _ _ _ _ _ _ _ _ c.requires.part c.requires.found c.loop-place-test.true c.len-place-end.ensures c.col.view_is c.col_at-col.ensures c.row.view_is c.row_of.ensures in
    let w = c.loop-place.invariant.written in
    let read = next_read _ _ _ _ _ _ _ _ _ _ h w n c.index.ensures in
    record {
      written = next_written _ _ _ _ _ _ _ _ _ _ h w n;
      numbers = next_numbers _ _ _ _ _ _ _ _ _ _ (λ i. finished_at pairs c.args.found.0.items (get_or listed i 0)) h w n c.loop-place.invariant.numbers (ap (λ x. none - x) read);
    }

pub returns : goal.returns
returns g c =
    let a = g.C.ColumnLists.matrix c.args.columns in
    let pairs = g.S.SquarePart.pairs c.args.part in
    let listed = g.S.SquarePart.cols c.args.part in
    let end : c.loop-place.place ≡ length listed = omega (arith, c.loop-place-test.false, c.loop-place.auto.place-end, c.len-place-end.ensures, c.requires.part.same) in
    let w = subst (λ k. AreWritten pairs listed c.args.found.0.items (cols a) k c.loop-place.of_rows.items c.loop-place.of_cols.items) end c.loop-place.invariant.written in
    record {
      columns = written_numbered _ _ _ _ _ _ _ c.requires.part.square_cols c.requires.found w (λ i lt. c.loop-place.invariant.numbers i (omega (arith, lt, end)));
      rows = written_mates _ _ _ _ _ _ _ c.requires.part.maximum c.requires.part.square_cols c.requires.found w;
    }
