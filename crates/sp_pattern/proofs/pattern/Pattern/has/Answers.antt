use Rattle.bip_defs.specs.Matrix.{IsEntry}
use Rattle.sp_pattern.proofs.Shape.{found_iff}
use Rattle.sp_pattern.proofs.pattern.Pattern.has.Goals as goal

pub returns-then-col-cols : goal.returns-then-col-cols
returns-then-col-cols c = rw (c.is_ok.ensures.value) (found_iff (λ r. IsEntry c.args.self.now r c.args.col) c.rows_of.result.now c.args.row c.binary_search.result c.rows_of.ensures.rows c.binary_search.ensures.position)
