use Rattle.path_search.proofs.LayerLemmas.{cleared}
use Rattle.path_search.proofs.layers.Layers.start.Goals as goal

pub loop-number-init : goal.loop-number-init
loop-number-init g c = let e = c.clear.ensures in cleared _ _ _ c.requires.layers e.numbers e.places e.layer e.next
