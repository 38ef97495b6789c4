use Rattle.bip_defs.proofs.BottleneckLemmas.{above_entry, restricted_entry}
use Rattle.bip_defs.proofs.bottleneck.restricted_entries.Goals as goal

pub returns-clause-passing : goal.returns-clause-passing
returns-clause-passing c = restricted_entry

pub returns-clause-above : goal.returns-clause-above
returns-clause-above c = above_entry
