use Rattle.std.proofs.Common.{◌<◌, ◌∙◌, ap, arith, get_or, length}
use Rattle.bip_graph.proofs.Offsets.{seen_count, seen_rows}
use Rattle.bip_graph.specs.Blocks.{start_at}
use Rattle.std.specs.List.{slice_range}
use Rattle.bip_graph.proofs.blocks.Blocks.rows.Goals as goal

pub stretch-requires-clause-at : goal.stretch-requires-clause-at
stretch-requires-clause-at c = omega (arith, ap length c.as_slice.ensures.value, seen_count c.self.invariant c.self.view_is, c.requires)

pub returns : goal.returns
returns c =
    let lt : c.args.block < length c.self.inside.row_ends.items = omega (arith, seen_count c.self.invariant c.self.view_is, c.requires) in
    c.stretch.ensures ∙ (λ i. slice_range (c.as_slice-2.ensures.value i) (start_at 0 (c.as_slice.ensures.value i) c.args.block) (get_or (c.as_slice.ensures.value i) c.args.block 0)) ∙ seen_rows c.args.block c.self.invariant c.self.view_is lt
