use Rattle.std.proofs.Common.{◌≡◌, ◌<◌, ◌%◌, arith, get_or, length, rules}
use Rattle.std.proofs.lemmas.Grind.{common_steps}
use Rattle.least_match.proofs.AheadLemmas.{first_col_at}
use Rattle.least_match.proofs.tail.ClassTail.cols_at.Goals as goal

pub invariant_of-result : goal.invariant_of-result
invariant_of-result c =
    let lt : c.args.place % 8 < length c.args.ahead.now = first_of (omega arith, search rules) in
    let is : (get_or c.args.ahead.now (c.args.place % 8) c.index-ahead-place.result).0 ≡ c.row_at-row.result = first_of (search rules, grind (arith, common_steps)) in
    record { first_is = first_col_at c.args.self.now.pattern.now c.args.ahead.now (c.args.place % 8) c.row_at-row.result c.index-ahead-place-2.result c.index-ahead-place.result c.cols_of-cols.result.now c.requires.ahead lt is c.cols_of-cols.ensures.row_list }

pub returns-then-eq-clause-cols : goal.returns-then-eq-clause-cols
returns-then-eq-clause-cols c = (c.row_at-row.result, c.row_at-row.ensures.mate, c.cols_of-cols.ensures.cols)

pub returns-clause-cols : goal.returns-clause-cols
returns-clause-cols c = (c.row_at-row.result, c.row_at-row.ensures.mate, c.cols_of-cols.ensures.cols)
