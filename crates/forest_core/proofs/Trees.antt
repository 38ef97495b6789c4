-- The trees of a sound forest.
use Rattle.std.proofs.Common.{[]}
use Rattle.bip_defs.specs.Forest.{State}
use Rattle.forest_core.specs.Sound.{IsSound}
use Rattle.forest_core.specs.Trees.{HasTrees}
use Rattle.forest_core.proofs.Ends.{base_is_maximum}
use Rattle.forest_core.proofs.RootPaths.{has_path}
use Rattle.forest_core.proofs.Roots.{claims_differ, has_root, one_root, one_root_of_row, path_root, root_above, root_free, root_of_claimer}
use Rattle.forest_core.proofs.StoredForests.{base_row_claimed, claim_in_range, claimer_inside, claims_few, leaf_in_range, root_below, root_in_range, root_inside, root_of_column}

pub has_trees : (s : State) → IsSound s → HasTrees s
has_trees s k = record {
  sound = k;
  rows_differ = claims_differ s.matrix s.base [] s.claims k.claims;
  few = claims_few s k;
  claim_in_range = λ r c h. claim_in_range s k r c h;
  claimer_inside = λ r c h. claimer_inside s k r c h;
  root = λ c i. root_of_column s k c i;
  one_root = λ x y c w v. one_root s k w v;
  root_in_range = λ x c w lt. root_below s k w lt;
  root_unmatched = λ x c w. root_free s.base s.claims w;
  rooted_inside = λ x c w lt. root_inside s w lt;
  row_root = λ r h. has_root s k r h;
  one_row_root = λ x y r h g. one_root_of_row s k x y r h g;
  row_root_in_range = λ x r h. (root_in_range s k x r h, (claim_in_range s k r h.0 h.1).0);
  claimer_root = λ x r c h g. root_of_claimer s k x r c h g;
  mate_root = λ x r c w m. root_above s k r w m;
  mate_claimed = λ r c m i. base_row_claimed s k r c m i;
  leaf_in_range = λ x r h. leaf_in_range s k x r h;
  leaf_path = λ x r h. has_path s k x r h;
  path_root = λ x r w. path_root s k w;
  maximum = base_is_maximum s k;
}
