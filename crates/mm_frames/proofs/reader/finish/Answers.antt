use Rattle.std.proofs.Common.{false, sym, ◌∙◌, arith}
use Rattle.std.proofs.lemmas.Result.{err_from_is_err_and}
use Rattle.mm_defs.specs.Words.{lines, open_line}
use Rattle.mm_frames.proofs.ReadLaws.{closed_lines, begun_lines}
use Rattle.mm_frames.proofs.reader.finish.Goals as goal

pub returns-then-not-begun-clause-steps : goal.returns-then-not-begun-clause-steps
returns-then-not-begun-clause-steps c n bytes h lfs =
    let e = closed_lines bytes (sym h.begun_is ∙ c.if-not-begun.true) in
    rw e h.lines_are

pub returns-in_err-take_line-clause-steps : goal.returns-in_err-take_line-clause-steps
returns-in_err-take_line-clause-steps c n bytes h lfs =
    let e = begun_lines bytes (sym h.begun_is ∙ c.if-not-begun.false) in
    let q = err_from_is_err_and c.from_residual.result c.from_residual.ensures.1 in
    rw (q.1, q.2)
    (rw e (c.in_err-take_line.ensures.steps n (open_line bytes) h.open_is (lines false bytes) h.lines_are (omega arith)))

pub returns-clause-steps : goal.returns-clause-steps
returns-clause-steps c n bytes h lfs =
    let e = begun_lines bytes (sym h.begun_is ∙ c.if-not-begun.false) in
    rw e (c.in_ok-take_line.ensures.steps n (open_line bytes) h.open_is (lines false bytes) h.lines_are (omega arith))
