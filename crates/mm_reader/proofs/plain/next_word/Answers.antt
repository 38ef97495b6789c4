use Rattle.std.proofs.Common.{arith}
use Rattle.mm_reader.proofs.plain.next_word.Goals as goal

pub returns : goal.returns
returns c =
    let b = c.blanks-start.ensures in
    let w = c.word_end-end.ensures in
    record {
      start = c.blanks-start.result;
      some_blanks = omega (arith, b.in_order, c.if-start-from.false);
      some_bytes = omega (arith, w.in_order, c.if-end-start.false);
      blanks_are = b;
      word_is = w;
    }
