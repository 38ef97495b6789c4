use Rattle.std.proofs.Common.{◌≡◌, ◌∙◌, length, rules, vec_len}
use Rattle.bip_graph.proofs.Offsets.{seen_count}
use Rattle.bip_graph.proofs.blocks.Blocks.len.Goals as goal

pub returns : goal.returns
returns c =
    let long : vec_len c.self.inside.row_ends ≡ length c.self.inside.row_ends.items = search rules in
    c.len.ensures ∙ long ∙ seen_count c.self.invariant c.self.view_is
