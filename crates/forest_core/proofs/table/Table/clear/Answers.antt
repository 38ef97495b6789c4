use Rattle.std.proofs.Common.{None, refl}
use Rattle.forest_core.specs.Tables.{read}
use Rattle.forest_core.proofs.TableLemmas.{read_none, seen_put}
use Rattle.forest_core.proofs.table.Table.clear.Goals as goal

pub returns : goal.returns
returns c = seen_put read _ _ c.args.at 4294967295 None c.self.view_is (read_none 4294967295 refl)
