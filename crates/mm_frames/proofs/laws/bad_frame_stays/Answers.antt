use Rattle.mm_frames.proofs.BatchLaws.{frame_stays}
use Rattle.mm_frames.proofs.laws.bad_frame_stays.Goals as goal

pub returns : goal.returns
returns c = frame_stays
