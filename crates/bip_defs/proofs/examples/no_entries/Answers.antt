use Rattle.bip_defs.proofs.Small.{no_entries}
use Rattle.bip_defs.proofs.examples.no_entries.Goals as goal

pub returns : goal.returns
returns c = no_entries
