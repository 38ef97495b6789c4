use Rattle.bip_defs.proofs.LeastMatching.{one_code, one_list, one_set}
use Rattle.bip_defs.proofs.one_least_matching.Goals as goal

pub returns : goal.returns
returns c = record { code = one_code; pairs = one_set; by_column = one_list }
