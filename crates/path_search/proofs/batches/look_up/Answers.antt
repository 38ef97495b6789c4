use Rattle.std.proofs.Common.{◌<◌, ◌+◌, length, map, subst, arith}
use Rattle.path_search.specs.Batches.{HasRows}
use Rattle.path_search.specs.declared.reached.Reached.{Reached}
use Rattle.path_search.proofs.BatchLemmas.{have_rows_set}
use Rattle.path_search.proofs.batches.look_up.Goals as goal

pub rows_of-requires-clause-col : goal.rows_of-requires-clause-col
rows_of-requires-clause-col g c = rw c.column_at-column.ensures (c.requires.in_range (c.args.place + c.loop-at.at) (omega arith)).0

pub rows_of-requires-clause-root : goal.rows_of-requires-clause-root
rows_of-requires-clause-root g c = rw c.column_at-column.ensures (c.requires.in_range (c.args.place + c.loop-at.at) (omega arith)).1

pub loop-at-init : goal.loop-at-init
loop-at-init g c = λ i lt. absurd (omega arith)

pub loop-at-preserved : goal.loop-at-preserved
loop-at-preserved g c =
    let within : c.loop-at.at < length c.loop-at.lists = omega arith in
    have_rows_set g.F.Id.number _ _ _ c.args.place c.loop-at.at c.loop-at.lists c.rows_of.result within c.loop-at.invariant (subst (λ (x : Reached). HasRows (g.S.Side.matrix c.args.side.now) (g.F.Opposite.seen c.args.matching.now).pairs x (map g.F.Id.number c.rows_of.result.now)) c.column_at-column.ensures c.rows_of.ensures)
