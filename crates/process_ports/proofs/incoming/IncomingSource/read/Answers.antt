use Rattle.process_ports.proofs.Failing.{counted_failure}
use Rattle.process_ports.proofs.incoming.IncomingSource.read.Goals as goal

pub returns-in-Err-clause-cause : goal.returns-in-Err-clause-cause
returns-in-Err-clause-cause g c = counted_failure _ _ _ c.count_failure.ensures.counted c.count_failure.ensures.grows
