use Rattle.mm_reader.proofs.ValueWords.{integer_found}
use Rattle.mm_reader.proofs.plain.integer_at.Goals as goal

pub returns : goal.returns
returns c =
    integer_found c.args.bytes.now c.args.from c.sign-minus.result.1 c.digits-magnitude.result.1 c.digits-magnitude.result.0 c.sign-minus.result.0
    c.sign-minus.ensures c.digits-magnitude.ensures c.if-end-first.false
