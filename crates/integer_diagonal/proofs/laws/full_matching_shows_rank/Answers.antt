use Rattle.std.proofs.Common.{◌∙◌, sym}
use Rattle.integer_diagonal.proofs.Duality.{full_cols, full_rank, full_rows}
use Rattle.integer_diagonal.proofs.laws.full_matching_shows_rank.Goals as goal

pub returns-clause-square : goal.returns-clause-square
returns-clause-square c a m k = sym (full_rows a m k) ∙ full_cols a m k

pub returns-clause-rank : goal.returns-clause-rank
returns-clause-rank c = full_rank
