use Rattle.forest_core.proofs.forest.Forest.may.Goals as goal

pub returns-in-Graft : goal.returns-in-Graft
returns-in-Graft c = rw c.in-Graft.is c.are_flipped.ensures

pub returns-in-Rebuild : goal.returns-in-Rebuild
returns-in-Rebuild c = rw c.in-Rebuild.is c.are_flipped-in-Rebuild.ensures
