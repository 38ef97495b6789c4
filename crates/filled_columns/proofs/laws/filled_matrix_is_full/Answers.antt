use Rattle.filled_columns.proofs.FullPairings.{filled_parts, full_is_maximum}
use Rattle.filled_columns.proofs.laws.filled_matrix_is_full.Goals as goal

pub returns-clause-maximum : goal.returns-clause-maximum
returns-clause-maximum c = full_is_maximum

pub returns-clause-parts : goal.returns-clause-parts
returns-clause-parts c = filled_parts
