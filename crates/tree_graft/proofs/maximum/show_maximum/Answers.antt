use Rattle.bip_defs.proofs.Covers.{covers_none}
use Rattle.tree_graft.proofs.maximum.show_maximum.Goals as goal

pub returns-then-not-needs_threads-clause-covered : goal.returns-then-not-needs_threads-clause-covered
returns-then-not-needs_threads-clause-covered g c = covers_none _
