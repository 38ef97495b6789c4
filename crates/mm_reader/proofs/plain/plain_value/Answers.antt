use Rattle.mm_reader.proofs.ValueWords.{value_found}
use Rattle.mm_reader.proofs.plain.plain_value.Goals as goal

pub returns : goal.returns
returns c =
    value_found c.args.bytes.now c.args.from c.blanks-start.result c.in_ok-value.end c.in_ok-next.next c.in_ok-value.value
    c.blanks-start.ensures c.in_ok-value.ensures c.in_ok-next.ensures
