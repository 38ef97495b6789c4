use Rattle.std.proofs.Common.{◌∙◌}
use Rattle.bip_graph.proofs.opposite.RowOpposite.exchange.Goals as goal

pub returns-clause-matching : goal.returns-clause-matching
returns-clause-matching c = λ a of path. record {
  rows = c.flip.ensures.sizes.0 ∙ of.rows;
  cols = c.flip.ensures.sizes.1 ∙ of.cols;
  matching = c.flip.ensures.entries a of.matching path;
}
