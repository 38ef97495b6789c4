use Rattle.process_ports.proofs.Failing.{counted_failure}
use Rattle.process_ports.proofs.outgoing.OutgoingSink.write.Goals as goal

pub returns-then-not-is_empty-clause-cause : goal.returns-then-not-is_empty-clause-cause
returns-then-not-is_empty-clause-cause g c = counted_failure _ _ _ c.count_failure.ensures.counted c.count_failure.ensures.grows

pub returns-in-Err-clause-cause : goal.returns-in-Err-clause-cause
returns-in-Err-clause-cause g c = counted_failure _ _ _ c.count_failure-in-Err.ensures.counted c.count_failure-in-Err.ensures.grows
