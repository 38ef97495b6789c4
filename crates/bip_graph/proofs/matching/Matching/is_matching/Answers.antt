use Rattle.bip_graph.proofs.MatchingViews.{seen_pairing}
use Rattle.bip_graph.proofs.matching.Matching.is_matching.Goals as goal

pub returns : goal.returns
returns c = seen_pairing c.self.invariant c.self.view_is
