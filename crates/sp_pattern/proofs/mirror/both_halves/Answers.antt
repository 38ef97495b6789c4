use Rattle.std.proofs.Common.{◌+◌, ap, arith, length, length-append, map, refl, ◌∙◌}
use Rattle.sp_pattern.specs.Mirror.{both_sides}
use Rattle.bip_defs.proofs.Pieces.{start_within}
use Rattle.sp_pattern.proofs.MirrorLemmas.{both_length, both_more, pieces_more}
use Rattle.sp_pattern.proofs.Numbers.{length_numbers}
use Rattle.sp_pattern.proofs.mirror.both_halves.Goals as goal

pub overflow_cast-len : goal.overflow_cast-len
overflow_cast-len g c =
    let numbers = both_more g.I.Id.number c.args.col_starts.now c.args.col_rows.now c.args.row_starts.now c.args.row_cols.now c.loop-at.at (map g.I.Id.number c.loop-at.flat.items) c.append_before.new.flat.items c.append.new.flat.items _ _ c.part.ensures c.part-in-loop-at.ensures c.in_ok-append_before.ensures c.in_ok-append.ensures in
    let before = length_numbers g.I.Id.number c.loop-at.flat.items in
    let after = length_numbers g.I.Id.number c.append.new.flat.items in
    let both = length-append (map g.I.Id.number c.loop-at.flat.items) (both_sides c.args.col_starts.now c.args.col_rows.now c.args.row_starts.now c.args.row_cols.now c.loop-at.at) in
    let all = ap length numbers in
    let test = c.loop-at-test.true in
    let square = c.requires.square in
    let bound = both_length c.args.col_starts.now c.args.col_rows.now c.args.row_starts.now c.args.row_cols.now c.loop-at.at c.requires.cols c.requires.rows (omega (arith, test)) (omega (arith, test, square)) in
    let col = start_within c.args.col_starts.now c.args.col_rows.now c.requires.cols (c.loop-at.at + 1) (omega (arith, test)) in
    let row = start_within c.args.row_starts.now c.args.row_cols.now c.requires.rows (c.loop-at.at + 1) (omega (arith, test, square)) in
    let len = c.len.ensures in
    let ok = c.append.new.flat.ok in
    let so_far = c.loop-at.invariant.few in
    let few = c.requires.few in
    omega (arith, before, after, both, all, bound, col, row, len, ok, so_far, few)

pub loop-at-preserved : goal.loop-at-preserved
loop-at-preserved g c =
    let numbers = both_more g.I.Id.number c.args.col_starts.now c.args.col_rows.now c.args.row_starts.now c.args.row_cols.now c.loop-at.at (map g.I.Id.number c.loop-at.flat.items) c.append_before.new.flat.items c.append.new.flat.items _ _ c.part.ensures c.part-in-loop-at.ensures c.in_ok-append_before.ensures c.in_ok-append.ensures in
    let part = both_sides c.args.col_starts.now c.args.col_rows.now c.args.row_starts.now c.args.row_cols.now c.loop-at.at in
    let before = length_numbers g.I.Id.number c.loop-at.flat.items in
    let after = length_numbers g.I.Id.number c.append.new.flat.items in
    let both = length-append (map g.I.Id.number c.loop-at.flat.items) part in
    let all = ap length numbers in
    let test = c.loop-at-test.true in
    let square = c.requires.square in
    let bound = both_length c.args.col_starts.now c.args.col_rows.now c.args.row_starts.now c.args.row_cols.now c.loop-at.at c.requires.cols c.requires.rows (omega (arith, test)) (omega (arith, test, square)) in
    let len = c.len.ensures in
    let ok = c.append.new.flat.ok in
    let so_far = c.loop-at.invariant.few in
    record {
      pieces = rw (c.in_ok-push-2.ensures.items, numbers) (pieces_more c.loop-at.at (both_sides c.args.col_starts.now c.args.col_rows.now c.args.row_starts.now c.args.row_cols.now) c.loop-at.starts.items (map g.I.Id.number c.loop-at.flat.items) part c.len.result c.loop-at.invariant.pieces refl (len ∙ (omega (arith, ok, all, after))));
      few = omega (arith, before, after, both, all, bound, so_far);
    }
