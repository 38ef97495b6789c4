use Rattle.std.proofs.Common.{◌≡◌, ◌∙◌, arith, length, subst, sym, true≢false}
use Rattle.blocktri.proofs.GivenPairLemmas.{ArePairedBelow, bad_told, next_col_free, paired_more, pairs_all, pairs_full}
use Rattle.blocktri.proofs.given_orders.full_pairing.Goals as goal

pub returns-then-not-is_free_row-clause-refused : goal.returns-then-not-is_free_row-clause-refused
returns-then-not-is_free_row-clause-refused g c =
    let long = c.requires in
    let lt = c.loop-col-test.true in
    bad_told c.args.rows c.loop-col.col (g.N.NumberList.numbers c.args.row_of_column) c.loop-col.full c.at-row.result c.loop-col.invariant c.at-row.ensures (omega (arith, long, lt)) (λ free. absurd (true≢false (sym (c.is_free_row.ensures.1 free) ∙ c.if-not-is_free_row.true)))

pub pair-requires-clause-col_free : goal.pair-requires-clause-col_free
pair-requires-clause-col_free g c = next_col_free c.args.rows c.loop-col.col (g.N.NumberList.numbers c.args.row_of_column) c.loop-col.full c.loop-col.invariant

pub loop-col-preserved : goal.loop-col-preserved
loop-col-preserved g c =
    paired_more c.args.rows c.loop-col.col (g.N.NumberList.numbers c.args.row_of_column) c.loop-col.full c.pair.new.self c.at-row.result c.loop-col.invariant c.at-row.ensures (c.is_free_row.ensures.0 c.if-not-is_free_row.false) c.pair.ensures.sizes.0 c.pair.ensures.sizes.1 c.pair.ensures.added

pub returns-clause-pairs : goal.returns-clause-pairs
returns-clause-pairs g c =
    let long = c.requires in
    let end = c.loop-col.auto.col-end in
    let stop = c.loop-col-test.false in
    let few = c.ranges.rows.fits in
    pairs_all c.args.rows c.loop-col.col (g.N.NumberList.numbers c.args.row_of_column) c.loop-col.full c.loop-col.invariant (omega (arith, long, end, stop)) (omega (arith, few))

pub returns-clause-full : goal.returns-clause-full
returns-clause-full g c =
    let end = c.loop-col.auto.col-end in
    let stop = c.loop-col-test.false in
    let all : c.loop-col.col ≡ c.args.rows = omega (arith, end, stop) in
    pairs_full c.args.rows (g.N.NumberList.numbers c.args.row_of_column) c.loop-col.full (subst (λ n. ArePairedBelow c.args.rows n (g.N.NumberList.numbers c.args.row_of_column) c.loop-col.full) all c.loop-col.invariant) c.is_matching.ensures
