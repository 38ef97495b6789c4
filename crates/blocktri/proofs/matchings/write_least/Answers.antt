use Rattle.blocktri.proofs.MatchedLemmas.{mates_room}
use Rattle.blocktri.proofs.matchings.write_least.Goals as goal

pub write_wanted_rows-requires-clause-room : goal.write_wanted_rows-requires-clause-room
write_wanted_rows-requires-clause-room g c = (mates_room c.args.matrix.now c.in_ok-matching.matching c.args.row_of_column.now c.args.column_of_row.now c.requires.compressed (rw c.in_ok-pattern.ensures.pattern at c.in_ok-matching.ensures.maximum).matching c.requires.room).0

pub write_wanted_columns-requires-clause-room : goal.write_wanted_columns-requires-clause-room
write_wanted_columns-requires-clause-room g c = (mates_room c.args.matrix.now c.in_ok-matching.matching c.args.row_of_column.now c.args.column_of_row.now c.requires.compressed (rw c.in_ok-pattern.ensures.pattern at c.in_ok-matching.ensures.maximum).matching c.requires.room).1
