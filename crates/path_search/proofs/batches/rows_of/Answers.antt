use Rattle.bip_defs.proofs.Sets.{col_among}
use Rattle.path_search.proofs.batches.rows_of.Goals as goal

pub returns-in-Some : goal.returns-in-Some
returns-in-Some g c = record {
  sound = λ r h. absurd h;
  complete = λ free. absurd (free (col_among c.in-Some.field-0 c.args.column.root (g.F.Opposite.seen c.args.matching.now).pairs c.in-Some.ensures.found));
}

pub returns-in-None : goal.returns-in-None
returns-in-None g c = record { sound = c.rows_of-rows.ensures.rows.sound; complete = λ free. c.rows_of-rows.ensures.rows.complete }
