use Rattle.mm_frames.proofs.BatchLaws.{reported}
use Rattle.mm_frames.proofs.laws.bad_frame_is_reported.Goals as goal

pub returns : goal.returns
returns c = reported
