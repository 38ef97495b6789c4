use Rattle.std.proofs.Common.{◌≡◌, ap, arith, length, rules, vec_len}
use Rattle.std.proofs.lemmas.List.{nil_from_length}
use Rattle.bip_graph.proofs.Offsets.{seen_count}
use Rattle.bip_graph.proofs.blocks.Blocks.is_empty.Goals as goal

pub returns : goal.returns
returns c =
    let long : vec_len c.self.inside.row_ends ≡ length c.self.inside.row_ends.items = search rules in
    let count = seen_count c.self.invariant c.self.view_is in (
      λ t. let zero : vec_len c.self.inside.row_ends ≡ 0 = search (rules, c.is_empty.ensures) in nil_from_length c.args.self.now (omega (arith, zero, long, count)),
      λ e. let zero : vec_len c.self.inside.row_ends ≡ 0 = omega (arith, ap length e, long, count) in search (rules, zero),
    )
