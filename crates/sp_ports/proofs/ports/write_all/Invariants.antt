use Rattle.std.proofs.Common.{◌≡◌, List, ℕ, ◌++◌, length}
use Rattle.sp_ports.specs.Device.{Took, seen}
use Rattle.sp_ports.proofs.ports.write_all.Given as goal

abbrev pub invariant-loop-rest : goal.invariant-loop-rest
invariant-loop-rest g l =
    (prefix : List ℕ) × (l.fn.bytes ≡ prefix ++ l.rest) × Took (seen g.K.Sink.taken g.K.Sink.faults l.fn.out l.out) prefix

abbrev pub decreases-loop-rest : goal.decreases-loop-rest
decreases-loop-rest g l = length l.rest
