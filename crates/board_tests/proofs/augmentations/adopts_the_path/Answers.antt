use Rattle.std.proofs.Common.{◌∙◌}
use Rattle.board_tests.proofs.augmentations.adopts_the_path.Goals as goal

pub has_the_path-requires : goal.has_the_path-requires
has_the_path-requires g c = (c.in_ok-mates.ensures.rows_long ∙ c.requires.sizes.0, c.in_ok-mates.ensures.cols_long ∙ c.requires.sizes.1)
