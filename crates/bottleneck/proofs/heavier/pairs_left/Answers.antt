use Rattle.std.proofs.Common.{◌+◌, sym, subst}
use Rattle.bottleneck.proofs.HeavierLemmas.{AreLeft, left_col_free, left_more, left_row_free, left_same}
use Rattle.bottleneck.proofs.heavier.pairs_left.Goals as goal
use Rattle.bottleneck.proofs.heavier.pairs_left.Goals.{in-Some, in-None}

pub keep-requires-clause-row_free : goal.keep-requires-clause-row_free
keep-requires-clause-row_free c = left_row_free c.args.pattern.now c.args.matching.now c.loop-col.left c.in-Some.row c.loop-col.col c.requires.distinct c.loop-col.invariant c.in-Some.ensures.found

pub keep-requires-clause-col_free : goal.keep-requires-clause-col_free
keep-requires-clause-col_free c = left_col_free c.args.pattern.now c.args.matching.now c.loop-col.left c.loop-col.col c.loop-col.invariant

pub loop-col-preserved : goal.loop-col-preserved
loop-col-preserved c =
    elim c.match-row_of.branch [
      | in-Some w ↦ subst (λ z. AreLeft c.args.pattern.now c.args.matching.now z (c.loop-col.col + 1)) (sym w.left-is) (left_more c.args.pattern.now c.args.matching.now c.loop-col.left w.keep.new.left w.in-Some.row c.loop-col.col c.loop-col.invariant w.in-Some.ensures.found w.keep.ensures.matching w.keep.ensures.added)
      | in-None w ↦ subst (λ z. AreLeft c.args.pattern.now c.args.matching.now z (c.loop-col.col + 1)) (sym w.left-is) (left_same c.args.pattern.now c.args.matching.now c.loop-col.left c.loop-col.col c.loop-col.invariant)
    ]
