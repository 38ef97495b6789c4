use Rattle.std.proofs.Common.{◌∙◌, ap, arith}
use Rattle.bip_defs.specs.Matrix.{cols}
use Rattle.bottleneck.proofs.AnswerLemmas.{not_short}
use Rattle.bottleneck.proofs.answer.best_of_square.Goals as goal

pub shown-requires-clause-full : goal.shown-requires-clause-full
shown-requires-clause-full c = omega (arith, c.size.ensures.size, c.cols.ensures, c.if-size-cols.true)

pub raised-requires-clause-full : goal.raised-requires-clause-full
raised-requires-clause-full c =
    let same = ap cols c.pattern.ensures in
    let size = c.size-2.ensures.size in
    let n = c.cols-2.ensures in
    let long = c.if-size-cols-2.false in
    not_short c.pattern.result.now c.in_ok-matching.matching.pairs c.in_ok-matching.ensures.maximum.matching.matching (omega (arith, size, n, long, same)) ∙ same
