use Rattle.std.proofs.Common.{sym, ◌∙◌}
use Rattle.mm_reader.proofs.StepLaws.{entries_skipped, line_trails}
use Rattle.mm_reader.proofs.machine.after_line.Goals as goal

pub returns-then-is_skipped-clause-steps : goal.returns-then-is_skipped-clause-steps
returns-then-is_skipped-clause-steps c end bytes l out ls b has good n =
    entries_skipped end ls bytes c.args.preamble.header c.args.number b n good c.args.preamble.size c.args.at.done c.args.at.place c.args.triples.now has out (sym (c.is_skipped.ensures bytes l) ∙ c.if-is_skipped.true)

pub returns-then-at-preamble-clause-steps : goal.returns-then-at-preamble-clause-steps
returns-then-at-preamble-clause-steps c end bytes l out ls b has good n =
    line_trails end ls bytes c.args.preamble.header c.args.number b n good (sym (c.is_skipped.ensures bytes l) ∙ c.if-is_skipped.false) c.args.preamble.size c.args.at.done c.args.triples.now has c.args.at.place c.if-at-preamble.true out

pub returns-in-Coordinate-clause-steps : goal.returns-in-Coordinate-clause-steps
returns-in-Coordinate-clause-steps c end bytes l out =
    c.after_entry.ensures.steps end bytes l (sym (c.is_skipped.ensures bytes l) ∙ c.if-is_skipped.false)

pub returns-in-Array-clause-steps : goal.returns-in-Array-clause-steps
returns-in-Array-clause-steps c end bytes l out =
    c.after_value.ensures.steps end bytes l (sym (c.is_skipped.ensures bytes l) ∙ c.if-is_skipped.false)
