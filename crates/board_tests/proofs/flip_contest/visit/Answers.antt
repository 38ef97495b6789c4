use Rattle.board_tests.proofs.FlipContestLemmas.{col_unset, row_unset, took_mine, took_still, visited_held, visited_mine}
use Rattle.board_tests.proofs.flip_contest.visit.Goals as goal

pub set_row-requires-clause-took : goal.set_row-requires-clause-took
set_row-requires-clause-took c = took_mine c.args.seat.now c.args.tree c.in-Mine.ensures.seat

pub set_row-requires-clause-unset : goal.set_row-requires-clause-unset
set_row-requires-clause-unset c = row_unset c.requires.seat c.requires.tree _ c.take.ensures.seat

pub set_col-requires-clause-took : goal.set_col-requires-clause-took
set_col-requires-clause-took c = took_still c.take.new.seat _ _ c.args.tree c.set_row.ensures (took_mine c.args.seat.now c.args.tree c.in-Mine.ensures.seat)

pub set_col-requires-clause-unset : goal.set_col-requires-clause-unset
set_col-requires-clause-unset c = col_unset c.requires.seat c.requires.tree _ _ c.take.ensures.seat c.set_row.ensures

pub returns-in-Mine : goal.returns-in-Mine
returns-in-Mine c = visited_mine c.requires.seat c.requires.tree _ _ c.in-Mine.ensures.seat c.set_row.ensures c.set_col.ensures

pub returns-in-Held : goal.returns-in-Held
returns-in-Held c = visited_held c.requires.seat c.requires.tree _ c.in-Held.ensures.seat
