use Rattle.std.proofs.Common.{◌<◌, ℕ}
use Rattle.batch_core.specs.Shares.{AnswersItsClaims, IsKnown}
use Rattle.batch_core.proofs.share.Share.work.Given as goal

abbrev pub invariant-loop-file : goal.invariant-loop-file
invariant-loop-file g l = AnswersItsClaims l.worker l.initial.self l.self
    × ((i : ℕ) → i < l.file → IsKnown l.self.seat i)
