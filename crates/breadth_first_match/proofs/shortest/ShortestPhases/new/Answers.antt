use Rattle.std.proofs.Common.{◌∙◌, subst}
use Rattle.path_search.specs.Layers.{AreLayers}
use Rattle.breadth_first_match.proofs.shortest.ShortestPhases.new.Goals as goal

pub returns : goal.returns
returns g c = record {
  forest = record {
    rows = c.in_ok-forest.ensures.rows ∙ c.rows.ensures;
    cols = c.in_ok-forest.ensures.cols ∙ c.cols.ensures;
    matching = c.requires.matching;
  };
  layers = subst (λ n. AreLayers n c.in_ok-layers.layers) c.cols-2.ensures c.in_ok-layers.ensures;
}
