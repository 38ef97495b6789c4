use Rattle.mm_reader.proofs.PlainLaws.{plain_kept, plain_judged}
use Rattle.mm_reader.proofs.TakenLines.{entry_refused, entry_taken}
use Rattle.mm_reader.proofs.machine.PlainLineUsualLine.keep.Goals as goal

pub returns-in-Err-clause-steps : goal.returns-in-Err-clause-steps
returns-in-Err-clause-steps c end line p =
    let kept = plain_kept c.args.preamble.header c.args.self line p in
    let j = plain_judged c.args.preamble.header c.args.self line p c.args.preamble.size c.judge_place.result c.judge_place.ensures.judged in
    entry_refused c.args.preamble c.args.at c.args.triples.now c.requires.room c.requires.low c.args.number end line kept c.requires.format
    c.in-Err.kind c.args.triples.now (rw c.in-Err.is at j)

pub returns-in-Ok-clause-steps : goal.returns-in-Ok-clause-steps
returns-in-Ok-clause-steps c end line p =
    let kept = plain_kept c.args.preamble.header c.args.self line p in
    let j = plain_judged c.args.preamble.header c.args.self line p c.args.preamble.size c.judge_place.result c.judge_place.ensures.judged in
    let k = c.keep_entry.ensures in
    entry_taken c.args.preamble c.args.at c.args.triples.now c.requires.room c.requires.low c.args.number end line kept c.requires.format
    c.in-Ok.entry c.keep_entry.new.triples c.keep_entry.result (rw c.in-Ok.is at j) k.entries k.done k.err
