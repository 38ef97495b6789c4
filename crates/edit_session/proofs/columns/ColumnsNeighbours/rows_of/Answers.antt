use Rattle.std.proofs.Common.{subst}
use Rattle.bip_defs.specs.Lists.{Lists}
use Rattle.bip_defs.specs.Matrix.{IsEntry}
use Rattle.edit_session.specs.Columns.{RoomyMatrix}
use Rattle.edit_session.proofs.columns.ColumnsNeighbours.rows_of.Goals as goal

pub returns-clause-rows : goal.returns-clause-rows
returns-clause-rows c = subst (λ (w : RoomyMatrix). Lists (λ r. IsEntry w.matrix r c.args.col) c.list.result.now) c.self.view_is (rw (c.list.ensures, c.col.view_is) (c.self.invariant.pattern.columns c.args.col))
