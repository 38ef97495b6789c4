use Rattle.mm_reader.proofs.ValueWords.{integer_behind}
use Rattle.mm_reader.proofs.plain.next_integer.Goals as goal

pub returns : goal.returns
returns c = integer_behind c.args.bytes.now c.args.from c.blanks-start.result c.integer_at.result c.blanks-start.ensures c.if-start-from.false c.integer_at.ensures
