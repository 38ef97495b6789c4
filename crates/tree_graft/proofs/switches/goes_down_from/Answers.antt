use Rattle.std.proofs.Common.{◌↔◌, ◌<◌, ◌*◌, IsTrue, length}
use Rattle.tree_graft.specs.PhaseSearch.{IsUnclaimed}
use Rattle.tree_graft.proofs.CountLemmas.{choose_one}
use Rattle.tree_graft.proofs.switches.goes_down_from.Goals as goal

pub returns : goal.returns
returns c = choose_one (IsUnclaimed c.args.forest.now) (λ n. IsTrue c.goes_top_down.result ↔ (5 * length c.args.frontier.now < n)) c.unclaimed_count.result c.unclaimed_count.ensures c.goes_top_down.ensures
