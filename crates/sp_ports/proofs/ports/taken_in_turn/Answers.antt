use Rattle.sp_ports.proofs.InTurn.{took_both, took_prefix}
use Rattle.sp_ports.proofs.ports.taken_in_turn.Goals as goal

pub returns-clause-both : goal.returns-clause-both
returns-clause-both c = took_both

pub returns-clause-prefix : goal.returns-clause-prefix
returns-clause-prefix c = took_prefix
