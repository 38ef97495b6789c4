use Rattle.std.proofs.Common.{sym, true≢false}
use Rattle.bip_defs.proofs.Sets.{col_among}
use Rattle.path_search.proofs.RootLemmas.{root_known}
use Rattle.path_search.proofs.unmatched.is_root.Goals as goal

pub returns-in-Some : goal.returns-in-Some
returns-in-Some g c = (λ t. absurd (true≢false (sym t)), λ root. absurd (root.unmatched (col_among _ c.args.col (g.F.Opposite.seen c.args.matching.now).pairs c.in-Some.ensures.found)))

pub returns-in-None : goal.returns-in-None
returns-in-None g c = root_known _ _ _ g.F.Id.number c.rows_of.result.now c.is_empty.result c.rows_of.ensures.rows c.in-None.ensures.none c.is_empty.ensures
