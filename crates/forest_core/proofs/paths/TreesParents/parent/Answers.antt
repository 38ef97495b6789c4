use Rattle.forest_core.proofs.PathLemmas.{parent_held}
use Rattle.forest_core.proofs.StoredForests.{beside_within}
use Rattle.forest_core.proofs.paths.TreesParents.parent.Goals as goal

pub holder_at-requires-clause-within : goal.holder_at-requires-clause-within
holder_at-requires-clause-within c =
    let (d, h) = parent_held _ _ _ _ c.requires.kept.cols_differ c.requires.depth c.in-Some.ensures.found in
    beside_within _ _ d h

pub holder_at-requires-clause-some : goal.holder_at-requires-clause-some
holder_at-requires-clause-some c = parent_held _ _ _ _ c.requires.kept.cols_differ c.requires.depth c.in-Some.ensures.found
