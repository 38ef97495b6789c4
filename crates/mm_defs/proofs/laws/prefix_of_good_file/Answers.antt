use Rattle.mm_defs.proofs.Prefixes.{good_prefix}
use Rattle.mm_defs.proofs.laws.prefix_of_good_file.Goals as goal

pub returns : goal.returns
returns c = good_prefix
