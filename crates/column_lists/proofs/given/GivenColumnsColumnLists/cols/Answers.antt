use Rattle.std.proofs.Common.{sym}
use Rattle.column_lists.proofs.GivenLists.{wide}
use Rattle.column_lists.proofs.given.GivenColumnsColumnLists.cols.Goals as goal

pub returns : goal.returns
returns g c = rw (c.len.ensures) (sym (wide _ _ _ c.args.self.right))
