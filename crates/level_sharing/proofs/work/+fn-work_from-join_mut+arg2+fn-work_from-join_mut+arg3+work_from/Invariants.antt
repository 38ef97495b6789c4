use Rattle.std.proofs.Common.{◌+◌, ◌*◌, length}
use Rattle.level_sharing.proofs.work.+fn-work_from-join_mut+arg2+fn-work_from-join_mut+arg3+work_from.Given as goal

abbrev pub decreases-join_mut+arg2 : goal.decreases-join_mut+arg2
decreases-join_mut+arg2 g l = 2 * length l.prefix.now + 1

abbrev pub decreases-join_mut+arg3 : goal.decreases-join_mut+arg3
decreases-join_mut+arg3 g l = 2 * length l.suffix.now + 1

abbrev pub decreases-work_from : goal.decreases-work_from
decreases-work_from g l = 2 * length l.workers.now
