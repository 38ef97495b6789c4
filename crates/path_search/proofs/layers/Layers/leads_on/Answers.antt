use Rattle.path_search.proofs.layers.Layers.leads_on.Goals as goal

pub number-requires : goal.number-requires
number-requires g c = c.requires.cols c.in-Some.mate c.in-Some.ensures.found
