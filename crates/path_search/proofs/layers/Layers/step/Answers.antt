use Rattle.std.proofs.Common.{◌≡◌, ◌<◌, ◌∙◌, ap, arith, length, slice_index_or, subst}
use Rattle.bip_defs.proofs.Slices.{read_among}
use Rattle.path_search.specs.Layers.{LayersState}
use Rattle.path_search.proofs.LayerLemmas.{advanced}
use Rattle.path_search.proofs.layers.Layers.step.Goals as goal

pub loop-at-init : goal.loop-at-init
loop-at-init g c = record {
  layers = advanced _ _ _ c.requires.layers c.advance.ensures;
  layer = ap (λ (x : LayersState). x.layer) c.advance.ensures;
}

pub expand_all-requires-clause-col : goal.expand_all-requires-clause-col
expand_all-requires-clause-col g c =
    let layer = ap (λ (x : LayersState). x.layer) c.advance.ensures in
    let e : c.layer.result.now ≡ c.args.self.now.next = c.layer.ensures ∙ c.loop-at.invariant.layer in
    let end : c.layer-at-end.result.now ≡ c.args.self.now.next = c.layer-at-end.ensures ∙ layer in
    let lt : c.loop-at.at < length c.args.self.now.next = omega (arith, c.loop-at-test.true, ap length end) in
    c.requires.layers.next _ (read_among _ c.args.self.now.next c.loop-at.at lt (subst (λ xs. c.index-layer-at.result ≡ slice_index_or xs c.loop-at.at c.index-layer-at.result) e c.index-layer-at.is))
