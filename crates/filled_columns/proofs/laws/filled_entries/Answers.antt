use Rattle.filled_columns.proofs.FilledMatrices as lemmas
use Rattle.filled_columns.proofs.laws.filled_entries.Goals as goal

pub returns-clause-rows : goal.returns-clause-rows
returns-clause-rows c = lemmas.filled_rows

pub returns-clause-cols_are : goal.returns-clause-cols_are
returns-clause-cols_are c = lemmas.filled_cols

pub returns-clause-entries : goal.returns-clause-entries
returns-clause-entries c = lemmas.filled_entries
