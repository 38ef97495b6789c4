use Rattle.std.proofs.Common.{◌≡◌, ◌∙◌, ◌<◌, ℕ, List, length, map, slice_index, sym}
use Rattle.std.proofs.lemmas.List.{length-map}
use Rattle.karp_sipser.proofs.Prefixes.{number_at}
use Rattle.karp_sipser.proofs.Sums.{sum_next}
use Rattle.karp_sipser.proofs.neighbour_sums.sum_of.Goals as goal

pub loop-id-preserved : goal.loop-id-preserved
loop-id-preserved g c =
    let xs : List ℕ = map g.I.Id.number c.args.ids.now in
    let lt : c.loop-id.id-index < length xs = rw length-map c.loop-id-test.true in
    let at : slice_index xs c.loop-id.id-index ≡ c.number.result = number_at g.I.Id.number c.args.ids.now c.loop-id.id-index c.id-item.result c.loop-id-test.true c.id-item.is ∙ sym c.number.ensures in
    sum_next c.args.unit xs c.loop-id.id-index c.loop-id.sum c.number.result lt at c.loop-id.invariant
