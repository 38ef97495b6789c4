use Rattle.std.proofs.Common.{arith}
use Rattle.bip_defs.proofs.Sets.{col_among}
use Rattle.hall_witness.proofs.ScanLemmas.{mated_not_queued, root_entered, root_queued, root_room}
use Rattle.hall_witness.proofs.roots.root.Goals as goal

pub enter-requires-clause-room : goal.enter-requires-clause-room
enter-requires-clause-room g c new = let few = root_room _ _ _ _ _ c.requires.roots c.requires.col new in let long = c.requires.roots.search.long in omega (arith, few, long)

pub returns-in-None-clause-roots : goal.returns-in-None-clause-roots
returns-in-None-clause-roots g c = root_entered _ _ _ _ _ _ _ c.requires.roots c.requires.col c.in-None.ensures.none c.enter.ensures.entered

pub returns-in-None-clause-queued : goal.returns-in-None-clause-queued
returns-in-None-clause-queued g c = root_queued _ _ _ _ _ _ c.requires.roots.marked c.in-None.ensures.none c.enter.ensures.entered c.enter.ensures.grows

pub returns-in-Some-clause-queued : goal.returns-in-Some-clause-queued
returns-in-Some-clause-queued g c = mated_not_queued _ _ _ (col_among _ _ _ c.in-Some.ensures.found)
