use Rattle.std.proofs.Common.{◌≡◌, ◌∙◌, ◌+◌, ap, arith, sym}
use Rattle.bip_defs.proofs.Pieces.{start_within}
use Rattle.blocktri.specs.Compressed.{CompressedLists}
use Rattle.blocktri.specs.Weighted.{WeightedLists}
use Rattle.blocktri.proofs.WeightedLemmas.{first_farther}
use Rattle.blocktri.proofs.weighted.Weighted.first_id.Goals as goal

pub at-requires : goal.at-requires
at-requires g c =
    let m = c.args.self.now in
    let ids : g.N.NumberList.numbers c.matrix.inside.ids ≡ m.lists.ids = ap (λ (l : CompressedLists). l.ids) c.matrix.view_is ∙ ap (λ (w : WeightedLists). w.lists.ids) c.self.view_is in
    let to = c.loop-matrix.invariant.to in
    let within = start_within m.lists.starts m.lists.ids c.requires.compressed.starts_are (c.args.row + 1) c.requires.row in
    rw ids (omega (arith, to, within))

pub overflow_add-k : goal.overflow_add-k
overflow_add-k g c =
    let m = c.args.self.now in
    let to = c.loop-matrix.invariant.to in
    let within = start_within m.lists.starts m.lists.ids c.requires.compressed.starts_are (c.args.row + 1) c.requires.row in
    let few = c.requires.compressed.few_ids in
    omega (arith, to, within, few)

pub loop-matrix-preserved : goal.loop-matrix-preserved
loop-matrix-preserved g c =
    let m = c.args.self.now in
    let ids : g.N.NumberList.numbers c.matrix.inside.ids ≡ m.lists.ids = ap (λ (l : CompressedLists). l.ids) c.matrix.view_is ∙ ap (λ (w : WeightedLists). w.lists.ids) c.self.view_is in
    let i = c.loop-matrix.invariant in
    let at = rw ids at c.at.ensures in
    let (farther, before) = first_farther m.lists.starts m.lists.ids c.args.row c.args.col c.loop-matrix.k c.requires.compressed.starts_are c.requires.row c.requires.given i.from i.to i.before (λ is. c.loop-matrix-test.true (at ∙ is ∙ sym c.col.view_is)) in
    let from = i.from in
    record { from = omega (arith, from); to = farther; before = before }
