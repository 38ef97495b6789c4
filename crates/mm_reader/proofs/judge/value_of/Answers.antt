use Rattle.std.proofs.Common.{refl}
use Rattle.mm_reader.proofs.judge.value_of.Goals as goal

pub returns-in-Integer-clause-judged : goal.returns-in-Integer-clause-judged
returns-in-Integer-clause-judged c w v = rw c.in-Integer.is (c.judge_integer.ensures.judged w (v (rw c.in-Integer.is refl)))
