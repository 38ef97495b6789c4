use Rattle.std.proofs.Common.{Some, arith}
use Rattle.forest_core.specs.Tables.{read}
use Rattle.forest_core.proofs.TableLemmas.{read_some, seen_put}
use Rattle.forest_core.proofs.table.Table.write.Goals as goal

pub returns : goal.returns
returns c = seen_put read _ _ c.args.at c.args.value (Some c.args.value) c.self.view_is (read_some c.args.value (λ e. (let lt = c.requires.value in omega arith)))
