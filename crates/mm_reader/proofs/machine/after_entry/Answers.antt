use Rattle.mm_reader.proofs.TakenLines.{entry_refused, entry_taken}
use Rattle.mm_reader.proofs.machine.after_entry.Goals as goal

pub returns-in-Err-clause-steps : goal.returns-in-Err-clause-steps
returns-in-Err-clause-steps c end bytes l kept =
    entry_refused c.args.preamble c.args.at c.args.triples.now c.requires.room c.requires.low c.args.number end bytes kept c.requires.format c.in-Err.kind c.args.triples.now (c.in-Err.ensures.judged bytes l)

pub returns-in-Ok-clause-steps : goal.returns-in-Ok-clause-steps
returns-in-Ok-clause-steps c end bytes l kept =
    let k = c.keep_entry.ensures in
    entry_taken c.args.preamble c.args.at c.args.triples.now c.requires.room c.requires.low c.args.number end bytes kept c.requires.format
    c.in-Ok.entry c.keep_entry.new.triples c.keep_entry.result (c.in-Ok.ensures.judged bytes l) k.entries k.done k.err
