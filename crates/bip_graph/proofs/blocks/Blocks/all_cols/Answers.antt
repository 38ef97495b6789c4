use Rattle.std.proofs.Common.{◌∙◌}
use Rattle.bip_graph.proofs.Offsets.{seen_all_cols}
use Rattle.bip_graph.proofs.blocks.Blocks.all_cols.Goals as goal

pub returns : goal.returns
returns c = c.as_slice.ensures.value ∙ seen_all_cols c.self.invariant c.self.view_is
