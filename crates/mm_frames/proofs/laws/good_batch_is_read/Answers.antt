use Rattle.mm_frames.proofs.BatchLaws.{batch_read}
use Rattle.mm_frames.proofs.laws.good_batch_is_read.Goals as goal

pub returns : goal.returns
returns c = batch_read
