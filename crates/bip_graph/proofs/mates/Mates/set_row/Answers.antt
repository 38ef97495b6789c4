use Rattle.std.proofs.Common.{ap}
use Rattle.bip_graph.specs.Mates.{Mated}
use Rattle.bip_graph.proofs.Mutual.{set_mate}
use Rattle.bip_graph.proofs.mates.Mates.set_row.Goals as goal

pub returns-clause-rows : goal.returns-clause-rows
returns-clause-rows c = set_mate c.self.inside.col_of_row.items c.args.self.now.rows _ _ _ _ (ap (λ (m : Mated). m.rows) c.self.view_is) c.row.view_is c.number_of_col.ensures
