use Rattle.frontier_levels.proofs.levels.TopDownWorkWorkerOutOfMemory.run.Goals as goal

pub run-requires-clause-search : goal.run-requires-clause-search
run-requires-clause-search c = record { sized = c.requires.0.sized; each = λ d m. c.requires.0.each d (c.share-share.ensures.within d m) }
