use Rattle.std.proofs.Common.{◌-◌, length}
use Rattle.mm_reader.specs.Plain.{is_visible, IsRun}
use Rattle.mm_reader.proofs.plain.word_end.Given as goal

abbrev pub invariant-loop-at : goal.invariant-loop-at
invariant-loop-at l = IsRun is_visible l.bytes l.from l.at

abbrev pub decreases-loop-at : goal.decreases-loop-at
decreases-loop-at l = length l.bytes - l.at
