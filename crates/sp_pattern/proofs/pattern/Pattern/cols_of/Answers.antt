use Rattle.std.proofs.Common.{rules}
use Rattle.sp_pattern.proofs.Shape.{row_list_unique}
use Rattle.sp_pattern.proofs.pattern.Pattern.cols_of.Goals as goal

pub returns-clause-row_list : goal.returns-clause-row_list
returns-clause-row_list c = row_list_unique c.args.self.now c.args.row c.part.result.now c.requires (search rules)
