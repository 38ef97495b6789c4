use Rattle.std.proofs.Common.{Bool, subst, sym}
use Rattle.bip_defs.specs.Lists.{Among}
use Rattle.blocktri.specs.GivenPairs.{lists_matched}
use Rattle.blocktri.proofs.PairLemmas.{col_told, row_told}
use Rattle.blocktri.proofs.warm_start.is_matched.Goals as goal

pub returns-then-by_rows : goal.returns-then-by_rows
returns-then-by_rows c = λ yes.
    let m = c.args.matching.now.pairs in
    subst (λ (b : Bool). Among c.args.list (lists_matched b m)) (sym c.if-by_rows.true) (row_told m c.args.list c.col_of.result c.is_some.result c.is_some.ensures c.col_of.ensures.found yes)

pub returns-else-by_rows : goal.returns-else-by_rows
returns-else-by_rows c = λ yes.
    let m = c.args.matching.now.pairs in
    subst (λ (b : Bool). Among c.args.list (lists_matched b m)) (sym c.if-by_rows.false) (col_told m c.args.list c.row_of.result c.is_some-else-by_rows.result c.is_some-else-by_rows.ensures c.row_of.ensures.found yes)
