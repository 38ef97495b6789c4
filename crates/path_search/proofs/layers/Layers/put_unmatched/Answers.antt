use Rattle.path_search.proofs.LayerLemmas.{put_layers}
use Rattle.path_search.proofs.layers.Layers.put_unmatched.Goals as goal

pub returns-in-None : goal.returns-in-None
returns-in-None g c = let e = c.add_col.ensures in put_layers _ c.args.col _ _ c.requires.layers c.requires.col e.numbers e.places e.layer e.next
