use Rattle.std.proofs.Common.{◌≡◌, map}
use Rattle.mm_frames.specs.Batches.{files_of}
use Rattle.batch_core.specs.Shares.{new_share}
use Rattle.batch_core.proofs.workers.new_shares.Given as goal

abbrev pub invariant-loop-seat : goal.invariant-loop-seat
invariant-loop-seat l = l.shares.items ≡ map (new_share (files_of l.files)) l.yielded
