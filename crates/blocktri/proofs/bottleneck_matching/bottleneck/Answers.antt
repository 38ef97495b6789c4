use Rattle.std.proofs.Common.{◌∙◌, ap, arith, length, refl}
use Rattle.bip_defs.specs.Matrix.{cols}
use Rattle.blocktri.specs.Compressed.{column_count}
use Rattle.blocktri.proofs.CompressedLemmas.{given_cols}
use Rattle.blocktri.proofs.DiagonalLemmas.{full_fits, given_few_cols, hall_few, room_full}
use Rattle.sp_pattern.specs.Weights.{weight_at}
use Rattle.blocktri.proofs.bottleneck_matching.bottleneck.Goals as goal

pub write_rows-requires : goal.write_rows-requires
write_rows-requires g c =
    let found = c.in_ok-found.ensures.found in
    let fit = c.if-not-have_lengths.ensures.0 refl in
    rw c.as_slice.ensures.value (full_fits c.args.matrix.now.lists found.weighing.matrix c.in_ok-found.found.pairs.items c.args.row_of_column.now found.compressed found.weights.matrix_is found.holds.full fit.rows_are)

pub write_columns-requires : goal.write_columns-requires
write_columns-requires g c = λ wanted.
    let found = c.in_ok-found.ensures.found in
    let fit = c.if-not-have_lengths.ensures.0 refl in
    let few = hall_few found.weighing.matrix (weight_at found.weighing) c.in_ok-found.found.pairs.items c.in_ok-found.found.least c.in_ok-found.found.hall.items found.holds in
    let n = ap cols found.weights.matrix_is ∙ given_cols c.args.matrix.now.lists in
    let long = ap length c.as_slice-2.ensures.value in
    let room = room_full c.args.shown_by.now (column_count c.args.matrix.now.lists) fit.columns_are wanted in
    omega (arith, few, n, long, room)

pub overflow_cast-result : goal.overflow_cast-result
overflow_cast-result g c =
    let found = c.in_ok-found.ensures.found in
    let few = hall_few found.weighing.matrix (weight_at found.weighing) c.in_ok-found.found.pairs.items c.in_ok-found.found.least c.in_ok-found.found.hall.items found.holds in
    let n = ap cols found.weights.matrix_is ∙ given_cols c.args.matrix.now.lists in
    let most = given_few_cols c.args.matrix.now.lists found.compressed in
    let len = c.len.ensures in
    let ok = c.in_ok-found.found.hall.ok in
    omega (arith, few, n, most, len, ok)

pub returns-clause-found : goal.returns-clause-found
returns-clause-found g c =
    let found = c.in_ok-found.ensures.found in
    let count = c.len.ensures in
    let ok = c.in_ok-found.found.hall.ok in
    record {
      compressed = found.compressed;
      weighing = found.weighing;
      weights = found.weights;
      holds = record {
        pairs = c.in_ok-found.found.pairs.items;
        hall = c.in_ok-found.found.hall.items;
        best = found.holds;
        rows_are = rw c.as_slice.ensures.value at c.write_rows.ensures;
        count = omega (arith, count, ok);
        columns_are = rw c.as_slice-2.ensures.value at c.write_columns.ensures;
      };
    }
