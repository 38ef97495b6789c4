use Rattle.std.proofs.Common.{sym, true≢false}
use Rattle.bip_defs.proofs.Sets.{row_among}
use Rattle.blocktri.proofs.given_orders.is_free_row.Goals as goal

pub returns-in-Some : goal.returns-in-Some
returns-in-Some c = (λ yes. absurd (true≢false (sym yes)), λ free. absurd (free.1 (row_among c.args.number c.in-Some.field-0 c.args.matching.now.pairs c.in-Some.ensures.found)))
