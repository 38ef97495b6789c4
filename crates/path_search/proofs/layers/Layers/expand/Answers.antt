use Rattle.path_search.proofs.LayerLemmas.{put_layers}
use Rattle.path_search.proofs.layers.Layers.expand.Goals as goal

pub number-requires : goal.number-requires
number-requires g c = rw c.requires.layers.numbers (c.requires.cols c.in-Some.mate c.in-Some.ensures.found)

pub returns-in_err-add_col-in-Some-clause-layers : goal.returns-in_err-add_col-in-Some-clause-layers
returns-in_err-add_col-in-Some-clause-layers g c = let e = c.add_col.ensures in put_layers _ c.in-Some.mate _ _ c.requires.layers (c.requires.cols c.in-Some.mate c.in-Some.ensures.found) e.numbers e.places e.layer e.next

pub returns-in_ok-add_col-in-Some-clause-layers : goal.returns-in_ok-add_col-in-Some-clause-layers
returns-in_ok-add_col-in-Some-clause-layers g c = let e = c.add_col.ensures in put_layers _ c.in-Some.mate _ _ c.requires.layers (c.requires.cols c.in-Some.mate c.in-Some.ensures.found) e.numbers e.places e.layer e.next
