use Rattle.std.proofs.Common.{◌∙◌, rules, to_z-of_z, to_z, of_z, SFits, w64}
use Rattle.mm_reader.proofs.TakenLines.{value_refused, value_taken}
use Rattle.mm_reader.proofs.machine.after_value.Goals as goal

pub returns-in-Err-clause-steps : goal.returns-in-Err-clause-steps
returns-in-Err-clause-steps c end bytes l kept =
    value_refused c.args.preamble c.args.at c.args.triples.now c.requires.room c.requires.low c.args.number end bytes kept c.requires.format c.in-Err.kind c.args.triples.now (c.in-Err.ensures.judged bytes l)

pub returns-in-Ok-clause-steps : goal.returns-in-Ok-clause-steps
returns-in-Ok-clause-steps c end bytes l kept =
    let k = c.keep_value.ensures in
    let j = c.in-Ok.ensures.judged bytes l in
    let fits : SFits w64 c.in-Ok.value = search rules in
    value_taken c.args.preamble c.args.at c.args.triples.now c.requires.room c.requires.low c.args.number end bytes kept c.requires.format
    (to_z w64 (of_z w64 c.in-Ok.value)) c.keep_value.new.triples c.keep_value.result j.0 (to_z-of_z fits ∙ j.1) k.entries k.done k.err
