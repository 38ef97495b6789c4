use Rattle.std.proofs.Common.{◌≡◌, ◌∙◌, ℕ, ◌<◌, List, length, map, slice_index, sym, inl, inr, refl, arith}
use Rattle.std.proofs.lemmas.Bool.{true≢false}
use Rattle.std.proofs.lemmas.List.{length-map}
use Rattle.karp_sipser.proofs.LeftOut.{lowering_next}
use Rattle.karp_sipser.proofs.Prefixes.{number_at, read_among}
use Rattle.karp_sipser.proofs.neighbour_sums.lower.Goals as goal
use Rattle.karp_sipser.proofs.neighbour_sums.lower.Goals.{then-looks_like_one, else-looks_like_one}

pub bounds-words-at : goal.bounds-words-at
bounds-words-at g c =
    let inside = read_among g.I.Id.number _ _ _ c.id-item.result c.loop-id-test.true c.id-item.is c.requires.in_range in
    rw c.number-at.ensures (omega (arith, c.loop-id.invariant.0.lowered.long, inside))

pub bounds-words-at-in-loop-id : goal.bounds-words-at-in-loop-id
bounds-words-at-in-loop-id g c =
    let inside = read_among g.I.Id.number _ _ _ c.id-item.result c.loop-id-test.true c.id-item.is c.requires.in_range in
    rw c.number-at.ensures (omega (arith, c.loop-id.invariant.0.lowered.long, inside))

pub insert-requires : goal.insert-requires
insert-requires g c =
    let inside = read_among g.I.Id.number _ _ _ c.id-item.result c.loop-id-test.true c.id-item.is c.requires.in_range in
    rw c.number-at.ensures (omega (arith, c.loop-id.invariant.1, inside))

pub loop-id-preserved : goal.loop-id-preserved
loop-id-preserved g c =
    let xs : List ℕ = map g.I.Id.number c.args.ids.now in
    let lt : c.loop-id.id-index < length xs = rw length-map c.loop-id-test.true in
    let at : slice_index xs c.loop-id.id-index ≡ c.number-at.result = number_at g.I.Id.number c.args.ids.now c.loop-id.id-index c.id-item.result c.loop-id-test.true c.id-item.is ∙ sym c.number-at.ensures in
    let inside : c.number-at.result < length c.args.words.now = rw c.number-at.ensures (read_among g.I.Id.number _ _ _ c.id-item.result c.loop-id-test.true c.id-item.is c.requires.in_range) in
    elim c.if-looks_like_one.branch [
      | then-looks_like_one w ↦ rw w.of_one-is (
        lowering_next _ _ _ _ _ c.loop-id.of_one.members _ xs _ _ _ c.requires.rising lt at inside c.loop-id.invariant.0 refl (λ y h. (w.insert.ensures.members y).1 (inr h)) (λ looks. (w.insert.ensures.members c.number-at.result).1 (inl refl)),
        w.insert.ensures.bound ∙ c.loop-id.invariant.1,
      )
      | else-looks_like_one w ↦ rw w.of_one-is (
        lowering_next _ _ _ _ _ c.loop-id.of_one.members _ xs _ _ _ c.requires.rising lt at inside c.loop-id.invariant.0 refl (λ y h. h) (λ looks. absurd (true≢false (sym (c.looks_like_one.ensures.1 looks) ∙ w.if-looks_like_one.false))),
        c.loop-id.invariant.1,
      )
    ]
