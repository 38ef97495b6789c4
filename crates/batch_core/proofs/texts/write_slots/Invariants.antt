use Rattle.std.proofs.Common.{take}
use Rattle.sp_ports.specs.Device.{Took, seen}
use Rattle.batch_core.specs.BatchText.{texts_of_slots}
use Rattle.batch_core.proofs.texts.write_slots.Given as goal

abbrev pub invariant-loop-i : goal.invariant-loop-i
invariant-loop-i g l =
    Took (seen g.K.Sink.taken g.K.Sink.faults l.fn.out l.out) (texts_of_slots 1 (take l.i l.slots))
