use Rattle.filled_columns.proofs.FilledMatrices.{filled_same}
use Rattle.filled_columns.proofs.laws.filled_with_entries.Goals as goal

pub returns : goal.returns
returns c = filled_same
