use Rattle.std.proofs.Common.{◌∙◌, ap}
use Rattle.bip_defs.specs.Matrix.{Matrix, cols}
use Rattle.board_tests.proofs.augmentations.exchanges_the_path.Goals as goal

pub adopts_the_path-requires-clause-sizes : goal.adopts_the_path-requires-clause-sizes
adopts_the_path-requires-clause-sizes g c κs within = (ap (λ (a : Matrix). a.rows) c.in_ok-forest.ensures.matrix ∙ c.in_ok-pattern.ensures.0, ap cols c.in_ok-forest.ensures.matrix ∙ c.in_ok-pattern.ensures.1)
