use Rattle.bip_defs.proofs.Sets.{neighbours_lists}
use Rattle.bip_defs.proofs.Transposed.{row_list_lists}
use Rattle.bip_defs.proofs.lists_follow_the_entries.Goals as goal

pub returns : goal.returns
returns c = record { of_row = row_list_lists; of_columns = neighbours_lists }
