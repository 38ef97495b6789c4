use Rattle.bip_defs.specs.Lists.{Among}
use Rattle.bip_defs.specs.Matrix.{Place}
use Rattle.bip_defs.proofs.Sets.{row_among}
use Rattle.forest_core.proofs.Members.{some_decides}
use Rattle.forest_core.proofs.forest.Forest.is_matched.Goals as goal

pub returns : goal.returns
returns c = some_decides (λ d. Among {X = Place} (c.args.row, d) c.args.self.now.base) _ _ c.is_some.ensures (λ d m. row_among c.args.row d c.args.self.now.base m) c.base_col.ensures.found c.base_col.ensures.none
