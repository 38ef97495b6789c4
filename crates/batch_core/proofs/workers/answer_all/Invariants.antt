use Rattle.std.proofs.Common.{◌≡◌, length}
use Rattle.std.specs.List.{All}
use Rattle.mm_frames.specs.Batches.{files_of}
use Rattle.batch_core.specs.Shares.{Share}
use Rattle.batch_core.proofs.workers.answer_all.Given as goal

abbrev pub invariant-loop-share : goal.invariant-loop-share
invariant-loop-share g l = (l.answers.files ≡ files_of l.files)
    × All (λ (share : Share). share.files ≡ files_of l.files) l.shares.items

abbrev pub decreases-loop-share : goal.decreases-loop-share
decreases-loop-share g l = length l.shares.items
