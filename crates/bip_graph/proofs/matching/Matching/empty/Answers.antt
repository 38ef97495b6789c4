use Rattle.std.proofs.Common.{◌≡◌, rules, replicate}
use Rattle.bip_graph.specs.Matching.{none}
use Rattle.bip_graph.proofs.Empty.{empty_mates, empty_shown}
use Rattle.bip_graph.proofs.matching.Matching.empty.Goals as goal

pub invariant_of-result : goal.invariant_of-result
invariant_of-result c =
    let cols : c.in_ok-row_of_col.row_of_col.items ≡ replicate c.args.cols none = search rules in
    let rows : c.in_ok-col_of_row.col_of_row.items ≡ replicate c.args.rows none = search rules in
    empty_mates c.args.rows c.args.cols c.in_ok-row_of_col.row_of_col.items c.in_ok-col_of_row.col_of_row.items cols rows (search rules) (search rules)

pub returns : goal.returns
returns c =
    let cols : c.in_ok-row_of_col.row_of_col.items ≡ replicate c.args.cols none = search rules in
    let rows : c.in_ok-col_of_row.col_of_row.items ≡ replicate c.args.rows none = search rules in
    empty_shown c.args.rows c.args.cols c.in_ok-row_of_col.row_of_col.items c.in_ok-col_of_row.col_of_row.items cols rows
