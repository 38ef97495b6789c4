use Rattle.btf_words.proofs.NumberLemmas.{spelt, not_spelt}
use Rattle.btf_words.proofs.reading.number_within.Goals as goal

pub returns-then-number-high-clause-number : goal.returns-then-number-high-clause-number
returns-then-number-high-clause-number c =
    let read = c.in-Ok.ensures.value.0 in
    spelt c.args.low c.args.high c.in-Ok.number c.args.text.now read.0.0 read.1 read.0.1 c.if-low-number.true c.if-number-high.true

pub returns-in-Err-clause-number : goal.returns-in-Err-clause-number
returns-in-Err-clause-number c = not_spelt c.args.low c.args.high c.args.text.now c.in-Err.ensures.value.0
