use Rattle.std.proofs.Common.{◌≡◌, ◌∙◌, ◌≤◌, ℕ, List, length, map, slice_index, take_all, sym, subst}
use Rattle.std.proofs.lemmas.List.{length-map}
use Rattle.bip_defs.proofs.Sets.{row_among}
use Rattle.bip_defs.specs.Lists.{Among}
use Rattle.bip_defs.specs.Matching.{rows_of}
use Rattle.bip_defs.specs.Start.{IsLeast}
use Rattle.karp_sipser.proofs.Prefixes.{least_from_front, none_found, number_at, others_next, read_among, some_found}
use Rattle.karp_sipser.proofs.unmatched.first_unmatched.Goals as goal

pub col_of-requires : goal.col_of-requires
col_of-requires g c = rw c.number.ensures (read_among g.I.Id.number _ _ _ c.id-item.result c.loop-id-test.true c.id-item.is c.requires.in_range)

pub returns-then-is_none-clause-least : goal.returns-then-is_none-clause-least
returns-then-is_none-clause-least g c =
    let xs : List ℕ = map g.I.Id.number c.args.ids.now in
    let others : List ℕ = rows_of (g.I.Opposite.seen c.args.matching.now).pairs in
    let at : slice_index xs c.loop-id.id-index ≡ g.I.Id.number c.id-item.result = number_at g.I.Id.number c.args.ids.now c.loop-id.id-index c.id-item.result c.loop-id-test.true c.id-item.is in
    let apart : ¬ Among c.number.result others = none_found c.col_of.result c.is_none.result _ c.is_none.ensures c.if-is_none.true c.col_of.ensures.none in
    subst (IsLeast (λ x. Among x xs × (¬ Among x others))) at
    (least_from_front others xs c.loop-id.id-index c.requires.rising (rw length-map c.loop-id-test.true) c.loop-id.invariant (subst (λ x. ¬ Among x others) (c.number.ensures ∙ sym at) apart))

pub loop-id-preserved : goal.loop-id-preserved
loop-id-preserved g c =
    let xs : List ℕ = map g.I.Id.number c.args.ids.now in
    let others : List ℕ = rows_of (g.I.Opposite.seen c.args.matching.now).pairs in
    let at : slice_index xs c.loop-id.id-index ≡ g.I.Id.number c.id-item.result = number_at g.I.Id.number c.args.ids.now c.loop-id.id-index c.id-item.result c.loop-id-test.true c.id-item.is in
    let (mate, pair) = some_found c.col_of.result c.is_none.result _ c.is_none.ensures c.if-is_none.false c.col_of.ensures.found in
    let here : Among c.number.result others = row_among c.number.result mate _ pair in
    others_next others xs c.loop-id.id-index (rw length-map c.loop-id-test.true) c.loop-id.invariant (subst (λ x. Among x others) (c.number.ensures ∙ sym at) here)

pub returns-clause-none : goal.returns-clause-none
returns-clause-none g c =
    let past = c.loop-id-test.false in
    let whole : length (map g.I.Id.number c.args.ids.now) ≤ c.loop-id.id-index = rw length-map past in
    rw take_all at c.loop-id.invariant
