use Rattle.std.proofs.Common.{arith}
use Rattle.bip_defs.specs.Matrix.{cols}
use Rattle.bip_defs.specs.Parts.{IsHorizontalCol, IsHorizontalRow, IsSquareRow, IsVerticalCol, IsVerticalRow}
use Rattle.bip_defs.proofs.Counts.{horizontal_row_in_range, vertical_col_in_range}
use Rattle.blocktri.proofs.SizeLemmas.{few_listed}
use Rattle.blocktri.proofs.find_sizes.part_sizes.Goals as goal

pub overflow_cast-result : goal.overflow_cast-result
overflow_cast-result c =
    let (a, has, rows, columns) = c.requires in
    let few = few_listed (IsHorizontalRow a) a.rows c.args.parts.now.hr.items has.horizontal_rows (λ r h. horizontal_row_in_range a r h) rows in
    let long = c.len.ensures in
    omega (arith, few, long)

pub overflow_cast-result-2 : goal.overflow_cast-result-2
overflow_cast-result-2 c =
    let (a, has, rows, columns) = c.requires in
    let few = few_listed (IsHorizontalCol a) (cols a) c.args.parts.now.hc.items has.horizontal_cols (λ d h. h.0) columns in
    let long = c.len-2.ensures in
    omega (arith, few, long)

pub overflow_cast-result-3 : goal.overflow_cast-result-3
overflow_cast-result-3 c =
    let (a, has, rows, columns) = c.requires in
    let few = few_listed (IsSquareRow a) a.rows c.args.parts.now.sr.items has.square_rows (λ r h. h.0) rows in
    let long = c.len-3.ensures in
    omega (arith, few, long)

pub overflow_cast-result-4 : goal.overflow_cast-result-4
overflow_cast-result-4 c =
    let (a, has, rows, columns) = c.requires in
    let few = few_listed (IsVerticalRow a) a.rows c.args.parts.now.vr.items has.vertical_rows (λ r h. h.0) rows in
    let long = c.len-4.ensures in
    omega (arith, few, long)

pub overflow_cast-result-5 : goal.overflow_cast-result-5
overflow_cast-result-5 c =
    let (a, has, rows, columns) = c.requires in
    let few = few_listed (IsVerticalCol a) (cols a) c.args.parts.now.vc.items has.vertical_cols (λ d h. vertical_col_in_range a d h) columns in
    let long = c.len-5.ensures in
    omega (arith, few, long)
