use Rattle.std.proofs.Common.{arith}
use Rattle.batch_core.proofs.ShareLemmas.{answers_on, continues_on, known_next, none_claimed}
use Rattle.batch_core.proofs.share.Share.work.Goals as goal

pub loop-file-init : goal.loop-file-init
loop-file-init g c = (none_claimed c.args.worker c.args.self.now, λ i lt. absurd (omega (arith, lt)))

pub returns-in_err-answer_one-clause-always : goal.returns-in_err-answer_one-clause-always
returns-in_err-answer_one-clause-always g c = continues_on _ _ _ c.loop-file.invariant.0.continues c.in_err-answer_one.ensures.always

pub loop-file-preserved : goal.loop-file-preserved
loop-file-preserved g c =
    let step = c.in_ok-answer_one.ensures in
    (answers_on _ _ _ _ c.loop-file.invariant.0 step.own, known_next c.loop-file.self c.answer_one.new.self c.loop-file.file step.always c.loop-file.invariant.1 step.known)
