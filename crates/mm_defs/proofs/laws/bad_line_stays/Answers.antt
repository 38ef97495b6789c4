use Rattle.mm_defs.proofs.Prefixes.{bad_stays}
use Rattle.mm_defs.proofs.laws.bad_line_stays.Goals as goal

pub returns : goal.returns
returns c = bad_stays
