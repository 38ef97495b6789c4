use Rattle.mm_frames.proofs.BatchLaws.{one_list}
use Rattle.mm_frames.proofs.laws.batch_has_one_list_of_files.Goals as goal

pub returns : goal.returns
returns c = one_list
