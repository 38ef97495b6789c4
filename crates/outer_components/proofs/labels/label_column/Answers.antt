use Rattle.std.proofs.Common.{arith, refl}
use Rattle.outer_components.proofs.LabelLemmas.{label_long, label_some}
use Rattle.outer_components.proofs.labels.label_column.Goals as goal

pub label_for-label-requires-clause-rows : goal.label_for-label-requires-clause-rows
label_for-label-requires-clause-rows g c = rw (c.rows_of-entries.ensures, c.requires.long_rows) (λ r on. ((c.requires.listed.entries r _ c.requires.col).1 on).0)

pub bounds-col_labels-col : goal.bounds-col_labels-col
bounds-col_labels-col g c = let lt = c.requires.col in let long = c.requires.long_cols in omega (arith, lt, long)

pub meet_all-requires-clause-rows : goal.meet_all-requires-clause-rows
meet_all-requires-clause-rows g c = rw (c.rows_of-entries.ensures, c.requires.long_rows) (λ r on. ((c.requires.listed.entries r _ c.requires.col).1 on).0)

pub meet_all-requires-clause-label : goal.meet_all-requires-clause-label
meet_all-requires-clause-label g c = label_some _ _ _ _ _ c.label_for-label.ensures c.requires.few

pub meet_all-requires-clause-long : goal.meet_all-requires-clause-long
meet_all-requires-clause-long g c = label_long _ _ _ _ _ c.label_for-label.ensures c.requires.fit.ends.long

pub returns : goal.returns
returns g c = record {
  entries = g.L.Rows.NumberList.numbers c.rows_of-entries.result;
  sound = rw c.rows_of-entries.ensures (λ r on. (c.requires.listed.entries r _ c.requires.col).1 on);
  complete = rw c.rows_of-entries.ensures (λ r e. (c.requires.listed.entries r _ c.requires.col).0 e);
  label = c.label_for-label.result;
  mid = c.label_for-label.new.contacts;
  label_for = c.label_for-label.ensures;
  met = c.in_ok-meet_all.ensures;
  written = refl;
}
