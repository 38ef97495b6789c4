use Rattle.std.proofs.Common.{◌∙◌}
use Rattle.bip_graph.proofs.Offsets.{seen_all_rows}
use Rattle.bip_graph.proofs.blocks.Blocks.all_rows.Goals as goal

pub returns : goal.returns
returns c = c.as_slice.ensures.value ∙ seen_all_rows c.self.invariant c.self.view_is
