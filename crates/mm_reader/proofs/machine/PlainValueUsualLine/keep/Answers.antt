use Rattle.std.proofs.Common.{refl, ◌∙◌, rules, to_z-of_z, to_z, of_z, SFits, w64}
use Rattle.mm_reader.proofs.TakenLines.{value_refused, value_taken}
use Rattle.mm_reader.proofs.ValueWords.{value_kept, line_judged}
use Rattle.mm_reader.proofs.machine.PlainValueUsualLine.keep.Goals as goal

pub returns-in-Err-clause-steps : goal.returns-in-Err-clause-steps
returns-in-Err-clause-steps c end line p =
    let r = c.requires.room in
    let kept = value_kept c.args.self line p in
    let j = line_judged c.args.self line p c.args.preamble.header c.judge_integer.result (r.header (rw c.requires.format refl)) c.judge_integer.ensures.judged in
    value_refused c.args.preamble c.args.at c.args.triples.now r c.requires.low c.args.number end line kept c.requires.format
    c.in-Err.kind c.args.triples.now (rw c.in-Err.is at j)

pub returns-in-Ok-clause-steps : goal.returns-in-Ok-clause-steps
returns-in-Ok-clause-steps c end line p =
    let r = c.requires.room in
    let kept = value_kept c.args.self line p in
    let j = line_judged c.args.self line p c.args.preamble.header c.judge_integer.result (r.header (rw c.requires.format refl)) c.judge_integer.ensures.judged in
    let f = rw c.in-Ok.is at j in
    let k = c.keep_value.ensures in
    let fits : SFits w64 c.in-Ok.value = search rules in
    value_taken c.args.preamble c.args.at c.args.triples.now r c.requires.low c.args.number end line kept c.requires.format
    (to_z w64 (of_z w64 c.in-Ok.value)) c.keep_value.new.triples c.keep_value.result f.0 (to_z-of_z fits ∙ f.1) k.entries k.done k.err
