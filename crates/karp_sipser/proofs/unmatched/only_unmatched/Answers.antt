use Rattle.std.proofs.Common.{◌≡◌, ◌∙◌, ◌<◌, ℕ, List, length, map, slice_index, sym, subst}
use Rattle.std.proofs.lemmas.List.{length-map}
use Rattle.bip_defs.proofs.Sets.{row_among}
use Rattle.bip_defs.specs.Lists.{Among}
use Rattle.bip_defs.specs.Matching.{rows_of}
use Rattle.karp_sipser.proofs.Prefixes.{found_first, found_none, found_only, found_same, found_second, none_found, number_at, read_among, some_found}
use Rattle.karp_sipser.proofs.unmatched.only_unmatched.Goals as goal
use Rattle.karp_sipser.proofs.unmatched.only_unmatched.Goals.{then-is_none+else-is_some, else-is_none}

pub col_of-requires : goal.col_of-requires
col_of-requires g c = rw c.number-number.ensures (read_among g.I.Id.number _ _ _ c.id-item.result c.loop-id-test.true c.id-item.is c.requires.in_range)

pub returns-then-is_some-clause-none : goal.returns-then-is_some-clause-none
returns-then-is_some-clause-none g c =
    let xs : List ℕ = map g.I.Id.number c.args.ids.now in
    let others : List ℕ = rows_of (g.I.Opposite.seen c.args.matching.now).pairs in
    let at : slice_index xs c.loop-id.id-index ≡ c.number-number.result = number_at g.I.Id.number c.args.ids.now c.loop-id.id-index c.id-item.result c.loop-id-test.true c.id-item.is ∙ sym c.number-number.ensures in
    let apart : ¬ Among c.number-number.result others = none_found c.col_of.result c.is_none.result _ c.is_none.ensures c.if-is_none.true c.col_of.ensures.none in
    found_second c.loop-id.found c.is_some.result others xs c.loop-id.id-index c.requires.rising (rw length-map c.loop-id-test.true) c.is_some.ensures c.if-is_some.true c.loop-id.invariant (subst (λ x. ¬ Among x others) (sym at) apart)

pub loop-id-preserved : goal.loop-id-preserved
loop-id-preserved g c =
    let xs : List ℕ = map g.I.Id.number c.args.ids.now in
    let others : List ℕ = rows_of (g.I.Opposite.seen c.args.matching.now).pairs in
    let lt : c.loop-id.id-index < length xs = rw length-map c.loop-id-test.true in
    let at : slice_index xs c.loop-id.id-index ≡ c.number-number.result = number_at g.I.Id.number c.args.ids.now c.loop-id.id-index c.id-item.result c.loop-id-test.true c.id-item.is ∙ sym c.number-number.ensures in
    elim c.if-is_none.branch [
      | then-is_none+else-is_some w ↦
          let apart : ¬ Among c.number-number.result others = none_found c.col_of.result c.is_none.result _ c.is_none.ensures w.if-is_none.true c.col_of.ensures.none in
          rw w.found-is (found_first c.loop-id.found w.is_some.result c.number-number.result others xs c.loop-id.id-index lt at w.is_some.ensures w.if-is_some.false c.loop-id.invariant apart)
      | else-is_none w ↦
          let (mate, pair) = some_found c.col_of.result c.is_none.result _ c.is_none.ensures w.if-is_none.false c.col_of.ensures.found in
          let here : Among c.number-number.result others = row_among c.number-number.result mate _ pair in
          rw w.found-is (found_same c.loop-id.found others xs c.loop-id.id-index lt c.loop-id.invariant (subst (λ x. Among x others) (sym at) here))
    ]

pub returns-clause-only : goal.returns-clause-only
returns-clause-only g c = found_only c.loop-id.found (rows_of (g.I.Opposite.seen c.args.matching.now).pairs) (map g.I.Id.number c.args.ids.now) c.loop-id.id-index (rw length-map c.loop-id-test.false) c.loop-id.invariant

pub returns-clause-none : goal.returns-clause-none
returns-clause-none g c = found_none c.loop-id.found (rows_of (g.I.Opposite.seen c.args.matching.now).pairs) (map g.I.Id.number c.args.ids.now) c.loop-id.id-index (rw length-map c.loop-id-test.false) c.loop-id.invariant
