use Rattle.mm_frames.proofs.BatchLaws.{batch_given, batch_good, good_batch}
use Rattle.mm_frames.proofs.laws.batch_has_no_bad_frame.Goals as goal

pub returns : goal.returns
returns c = record { none_bad = batch_good; batch = good_batch; given = batch_given }
