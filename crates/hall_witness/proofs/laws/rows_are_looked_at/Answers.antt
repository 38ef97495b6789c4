use Rattle.hall_witness.proofs.ScanLemmas.{led_enters, scanning_more}
use Rattle.hall_witness.proofs.laws.rows_are_looked_at.Goals as goal

pub returns-clause-row : goal.returns-clause-row
returns-clause-row c a m first old marks marks2 q q2 rows k r d place col = scanning_more a m first old marks marks2 q q2 rows k r d place col

pub returns-clause-led : goal.returns-clause-led
returns-clause-led c marks marks2 q q2 d place = led_enters marks marks2 q q2 d place
