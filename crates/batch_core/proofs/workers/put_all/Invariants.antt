use Rattle.std.proofs.Common.{◌≡◌, length}
use Rattle.batch_core.specs.Shares.{AreAnswers}
use Rattle.batch_core.proofs.workers.put_all.Given as goal

abbrev pub invariant-loop-file : goal.invariant-loop-file
invariant-loop-file l = (l.answers.files ≡ l.initial.answers.files) × AreAnswers l.answers.files l.found.items

abbrev pub decreases-loop-file : goal.decreases-loop-file
decreases-loop-file l = length l.found.items
