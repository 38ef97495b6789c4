use Rattle.std.proofs.Common.{subst}
use Rattle.bip_defs.specs.Lists.{Lists}
use Rattle.bip_defs.specs.Matrix.{IsEntry, Matrix}
use Rattle.sp_pattern.proofs.side.WeightsNeighbours.rows_of.Goals as goal

pub returns-clause-rows : goal.returns-clause-rows
returns-clause-rows c = subst (λ (a : Matrix). Lists (λ r. IsEntry a r c.args.col) c.rows_of.result.now) c.pattern.ensures c.rows_of.ensures.rows
