use Rattle.std.proofs.Common.{◌≡◌, drop}
use Rattle.batch_core.specs.BatchText.{answer_of}
use Rattle.batch_core.proofs.texts.answer_of.Given as goal

abbrev pub invariant-loop-slot : goal.invariant-loop-slot
invariant-loop-slot l = answer_of l.slots ≡ answer_of (drop l.slot-index l.slots)
