use Rattle.std.proofs.Common.{subst, ◌∙◌, List, ℕ}
use Rattle.sp_ports.specs.Device.{WroteAsFar, seen}
use Rattle.batch_core.proofs.refusals.BatchRefusal.tell.Goals as goal

pub returns-in-Malformed : goal.returns-in-Malformed
returns-in-Malformed g c =
    rw c.in-Malformed.is
    (subst (λ (line : List ℕ). WroteAsFar (seen g.E.Sink.taken g.E.Sink.faults c.args.err.now c.write_line-in-Malformed.new.err) line)
    (c.as_bytes-in-Malformed.ensures ∙ c.batch_malformed_line.ensures) c.write_line-in-Malformed.ensures)

pub returns-in-Limit : goal.returns-in-Limit
returns-in-Limit g c =
    rw c.in-Limit.is
    (subst (λ (line : List ℕ). WroteAsFar (seen g.E.Sink.taken g.E.Sink.faults c.args.err.now c.write_line-in-Limit.new.err) line)
    (c.as_bytes-in-Limit.ensures ∙ c.batch_limit_line.ensures) c.write_line-in-Limit.ensures)

pub returns-in-TooLong : goal.returns-in-TooLong
returns-in-TooLong g c = rw c.in-TooLong.is c.write_line-in-TooLong.ensures

pub returns-in-ReadFault : goal.returns-in-ReadFault
returns-in-ReadFault g c = rw c.in-ReadFault.is c.write_line-in-ReadFault.ensures

pub returns-in-WriteFault : goal.returns-in-WriteFault
returns-in-WriteFault g c = rw c.in-WriteFault.is c.write_line-in-WriteFault.ensures

pub returns-in-OutOfMemory : goal.returns-in-OutOfMemory
returns-in-OutOfMemory g c = rw c.in-OutOfMemory.is c.write_line-in-OutOfMemory.ensures
