use Rattle.std.proofs.Common.{◌≡◌, ◌<◌, ◌∙◌, ap, arith, length, slice_index_or, subst}
use Rattle.bip_defs.proofs.Slices.{read_among}
use Rattle.path_search.specs.Layers.{LayersState}
use Rattle.path_search.proofs.LayerLemmas.{numbered}
use Rattle.path_search.proofs.layers.Layers.leave_last.Goals as goal

pub set_number-requires : goal.set_number-requires
set_number-requires c =
    let (n, k) = c.requires in
    let e : c.next.result.now ≡ c.args.self.now.next = c.next.ensures ∙ ap (λ (x : LayersState). x.next) c.loop-at.invariant.same in
    let lt : c.loop-at.at < length c.args.self.now.next = omega (arith, c.loop-at-test.true, ap length c.next-at-end.ensures) in
    let below = k.next _ (read_among _ c.args.self.now.next c.loop-at.at lt (subst (λ xs. c.index-next-at.result ≡ slice_index_or xs c.loop-at.at c.index-next-at.result) e c.index-next-at.is)) in
    omega (arith, below, k.numbers, c.loop-at.invariant.numbers)

pub returns : goal.returns
returns c = λ n k. numbered n _ _ k c.loop-at.invariant.same c.loop-at.invariant.numbers
