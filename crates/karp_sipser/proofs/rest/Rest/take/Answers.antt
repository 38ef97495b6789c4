use Rattle.std.proofs.Common.{◌∙◌, ℕ, ◌<◌, List, length, map, refl, sym, subst, arith}
use Rattle.bip_defs.proofs.Sets.{entry_col, lists_same}
use Rattle.bip_defs.proofs.Transposed.{row_list_lists, transpose_cols, transpose_column, transpose_is}
use Rattle.bip_defs.specs.Lists.{Lists}
use Rattle.bip_defs.specs.Matching.{transposed_places}
use Rattle.bip_defs.specs.Matrix.{IsEntry, Matrix, Place, column, transpose}
use Rattle.bip_defs.specs.Start.{IsFree}
use Rattle.karp_sipser.specs.NeighbourSums.{LeavesOut}
use Rattle.karp_sipser.proofs.Free.{Adds, adds_turned, free_before, free_turned, turned_free}
use Rattle.karp_sipser.proofs.LeftOut.{AreBeside, IsTaking, after_at, beside_known, beside_same, ones_after, sums_after}
use Rattle.karp_sipser.proofs.rest.Rest.take.Goals as goal

-- the list of a row, as a column of the transpose
row_lists : (a : Matrix) (r : ℕ) → r < a.rows → Lists (λ d. IsEntry (transpose a) d r) (column (transpose a) r)
row_lists a r lt = lists_same (λ d. IsEntry a r d) (λ d. IsEntry (transpose a) d r) (column (transpose a) r) (λ d e. (transpose_is a).over r d e) (λ d e. (transpose_is a).back r d e)
    (subst (Lists (λ d. IsEntry a r d)) (sym (transpose_column a r lt)) (row_list_lists a r lt))

pub list_of-beside_row-requires : goal.list_of-beside_row-requires
list_of-beside_row-requires c = omega (arith, c.row.view_is, c.requires.free.0.0, transpose_cols c.args.sides.now.pattern.now)

pub has_only-more_cols-requires-clause-vertex : goal.has_only-more_cols-requires-clause-vertex
has_only-more_cols-requires-clause-vertex c = omega (arith, c.row.view_is, c.requires.free.0.0, transpose_cols c.args.sides.now.pattern.now)

pub only_beside-other_col-requires-clause-vertex : goal.only_beside-other_col-requires-clause-vertex
only_beside-other_col-requires-clause-vertex c = omega (arith, c.row.view_is, c.requires.free.0.0, transpose_cols c.args.sides.now.pattern.now)

pub leave_out-requires-clause-rising : goal.leave_out-requires-clause-rising
leave_out-requires-clause-rising c =
    let a : Matrix = c.args.sides.now.pattern.now in
    (beside_known a c.args.self.now.matching.pairs c.args.self.now.cols c.args.row c.args.col _ _ c.has_only-more_rows.result c.only_beside-other_row.result c.as_slice-one_row.result.now _ c.requires.rest.cols_sums c.requires.free c.col.view_is c.row.view_is (c.is_pattern.ensures.columns c.args.col) c.has_only-more_rows.ensures.word c.has_only-more_rows.ensures.short c.only_beside-other_row.ensures.word c.only_beside-other_row.ensures.short c.as_slice-one_row.ensures c.list_of-beside_col.ensures.list c.list_of-beside_col.ensures.alone c.list_of-beside_col.ensures.unwanted).rising

pub leave_out-requires-clause-in_range : goal.leave_out-requires-clause-in_range
leave_out-requires-clause-in_range c =
    let a : Matrix = c.args.sides.now.pattern.now in
    let beside : AreBeside (λ r. IsEntry a r c.args.col) (λ r. IsFree a c.args.self.now.matching.pairs r c.args.col) c.args.row _ = beside_known a c.args.self.now.matching.pairs c.args.self.now.cols c.args.row c.args.col _ _ c.has_only-more_rows.result c.only_beside-other_row.result c.as_slice-one_row.result.now _ c.requires.rest.cols_sums c.requires.free c.col.view_is c.row.view_is (c.is_pattern.ensures.columns c.args.col) c.has_only-more_rows.ensures.word c.has_only-more_rows.ensures.short c.only_beside-other_row.ensures.word c.only_beside-other_row.ensures.short c.as_slice-one_row.ensures c.list_of-beside_col.ensures.list c.list_of-beside_col.ensures.alone c.list_of-beside_col.ensures.unwanted in
    λ x h. omega (arith, (beside.sound x h).0, transpose_cols a, c.requires.rest.rows_sums.long)

pub leave_out-requires-clause-matched : goal.leave_out-requires-clause-matched
leave_out-requires-clause-matched c = omega (arith, c.row.view_is, c.requires.free.0.0, transpose_cols c.args.sides.now.pattern.now, c.requires.rest.rows_sums.long)

pub leave_out-requires-2-clause-rising : goal.leave_out-requires-2-clause-rising
leave_out-requires-2-clause-rising c =
    let a : Matrix = c.args.sides.now.pattern.now in
    (beside_known (transpose a) (transposed_places c.args.self.now.matching.pairs) c.args.self.now.rows c.args.col c.args.row _ _ c.has_only-more_cols.result c.only_beside-other_col.result c.as_slice-one_col.result.now _ c.requires.rest.rows_sums (free_turned a c.args.self.now.matching.pairs c.args.row c.args.col c.requires.free) c.row.view_is c.col.view_is (row_lists a c.args.row c.requires.free.0.0) c.has_only-more_cols.ensures.word c.has_only-more_cols.ensures.short c.only_beside-other_col.ensures.word c.only_beside-other_col.ensures.short c.as_slice-one_col.ensures c.list_of-beside_row.ensures.list c.list_of-beside_row.ensures.alone c.list_of-beside_row.ensures.unwanted).rising

pub leave_out-requires-2-clause-in_range : goal.leave_out-requires-2-clause-in_range
leave_out-requires-2-clause-in_range c =
    let a : Matrix = c.args.sides.now.pattern.now in
    let beside : AreBeside (λ d. IsEntry (transpose a) d c.args.row) (λ d. IsFree (transpose a) (transposed_places c.args.self.now.matching.pairs) d c.args.row) c.args.col _ = beside_known (transpose a) (transposed_places c.args.self.now.matching.pairs) c.args.self.now.rows c.args.col c.args.row _ _ c.has_only-more_cols.result c.only_beside-other_col.result c.as_slice-one_col.result.now _ c.requires.rest.rows_sums (free_turned a c.args.self.now.matching.pairs c.args.row c.args.col c.requires.free) c.row.view_is c.col.view_is (row_lists a c.args.row c.requires.free.0.0) c.has_only-more_cols.ensures.word c.has_only-more_cols.ensures.short c.only_beside-other_col.ensures.word c.only_beside-other_col.ensures.short c.as_slice-one_col.ensures c.list_of-beside_row.ensures.list c.list_of-beside_row.ensures.alone c.list_of-beside_row.ensures.unwanted in
    λ x h. let lt : x < length c.args.self.now.cols.words.items = omega (arith, entry_col a c.args.row x ((transpose_is a).back c.args.row x (beside.sound x h)), c.requires.rest.cols_sums.long) in lt

pub returns : goal.returns
returns c =
    let a : Matrix = c.args.sides.now.pattern.now in
    let s = c.args.self.now in
    let rest = c.requires.rest in
    let free = c.requires.free in
    let old : List Place = s.matching.pairs in
    let new : List Place = c.pair.new.self.pairs in
    let adds : Adds (c.args.row, c.args.col) old new = c.pair.ensures.added in
    let rs : List ℕ = map (λ (x : ℕ). x) c.list_of-beside_col.result.now in
    let cs : List ℕ = map (λ (x : ℕ). x) c.list_of-beside_row.result.now in
    let in_col : AreBeside (λ r. IsEntry a r c.args.col) (λ r. IsFree a old r c.args.col) c.args.row rs = beside_known a c.args.self.now.matching.pairs c.args.self.now.cols c.args.row c.args.col _ _ c.has_only-more_rows.result c.only_beside-other_row.result c.as_slice-one_row.result.now _ c.requires.rest.cols_sums c.requires.free c.col.view_is c.row.view_is (c.is_pattern.ensures.columns c.args.col) c.has_only-more_rows.ensures.word c.has_only-more_rows.ensures.short c.only_beside-other_row.ensures.word c.only_beside-other_row.ensures.short c.as_slice-one_row.ensures c.list_of-beside_col.ensures.list c.list_of-beside_col.ensures.alone c.list_of-beside_col.ensures.unwanted in
    let in_row : AreBeside (λ d. IsEntry (transpose a) d c.args.row) (λ d. IsFree (transpose a) (transposed_places old) d c.args.row) c.args.col cs = beside_known (transpose a) (transposed_places c.args.self.now.matching.pairs) c.args.self.now.rows c.args.col c.args.row _ _ c.has_only-more_cols.result c.only_beside-other_col.result c.as_slice-one_col.result.now _ c.requires.rest.rows_sums (free_turned a c.args.self.now.matching.pairs c.args.row c.args.col c.requires.free) c.row.view_is c.col.view_is (row_lists a c.args.row c.requires.free.0.0) c.has_only-more_cols.ensures.word c.has_only-more_cols.ensures.short c.only_beside-other_col.ensures.word c.only_beside-other_col.ensures.short c.as_slice-one_col.ensures c.list_of-beside_row.ensures.list c.list_of-beside_row.ensures.alone c.list_of-beside_row.ensures.unwanted in
    let taking : IsTaking a (c.args.row, c.args.col) old new cs = record {
      adds = adds;
      free = free;
      beside = beside_same (λ d. IsEntry (transpose a) d c.args.row) (λ d. IsFree (transpose a) (transposed_places old) d c.args.row) (λ d. IsEntry a c.args.row d) (λ d. IsFree a old c.args.row d) c.args.col cs (λ d e. (transpose_is a).back c.args.row d e) (λ d f. free_turned a old c.args.row d f) in_row;
    } in
    let turned : IsTaking (transpose a) (c.args.col, c.args.row) (transposed_places old) (transposed_places new) rs = record {
      adds = adds_turned c.args.row c.args.col old new adds;
      free = free_turned a old c.args.row c.args.col free;
      beside = beside_same (λ r. IsEntry a r c.args.col) (λ r. IsFree a old r c.args.col) (λ r. IsEntry (transpose a) c.args.col r) (λ r. IsFree (transpose a) (transposed_places old) c.args.col r) c.args.row rs (λ r e. (transpose_is a).over r c.args.col e) (λ r f. turned_free a old r c.args.col f) in_col;
    } in
    let after_rows : LeavesOut c.args.row c.args.col rs s.rows c.leave_out.new.self = after_at _ _ c.args.row c.args.col rs s.rows c.leave_out.new.self c.row.view_is c.col.view_is c.leave_out.ensures in
    let after_cols : LeavesOut c.args.col c.args.row cs s.cols c.leave_out-2.new.self = after_at _ _ c.args.col c.args.row cs s.cols c.leave_out-2.new.self c.col.view_is c.row.view_is c.leave_out-2.ensures in
    record {
      rest = record {
        same_rows = c.pair.ensures.sizes.0 ∙ rest.same_rows;
        same_cols = c.pair.ensures.sizes.1 ∙ rest.same_cols;
        cols_sums = sums_after a (c.args.row, c.args.col) old new cs s.cols c.leave_out-2.new.self rest.cols_sums taking after_cols;
        rows_sums = sums_after (transpose a) (c.args.col, c.args.row) (transposed_places old) (transposed_places new) rs s.rows c.leave_out.new.self rest.rows_sums turned after_rows;
        passed = rest.passed;
        below = λ r x lt f. rest.below r x lt (free_before a (c.args.row, c.args.col) old new r x adds f).0;
      };
      ones = record {
        of_cols = ones_after a (c.args.row, c.args.col) old new cs s.cols c.leave_out-2.new.self rest.cols_sums taking after_cols c.requires.ones.of_cols;
        of_rows = ones_after (transpose a) (c.args.col, c.args.row) (transposed_places old) (transposed_places new) rs s.rows c.leave_out.new.self rest.rows_sums turned after_rows c.requires.ones.of_rows;
      };
      pairs = c.pair.ensures.added;
      size = c.pair.ensures.size;
      next = refl;
    }
