use Rattle.std.proofs.Common.{ap}
use Rattle.bip_graph.specs.Mates.{Mated}
use Rattle.bip_graph.proofs.Mutual.{set_mate}
use Rattle.bip_graph.proofs.mates.Mates.set_col.Goals as goal

pub returns-clause-cols : goal.returns-clause-cols
returns-clause-cols c = set_mate c.self.inside.row_of_col.items c.args.self.now.cols _ _ _ _ (ap (λ (m : Mated). m.cols) c.self.view_is) c.col.view_is c.number_of_row.ensures
