use Rattle.std.proofs.Common.{◌≡◌, ◌∙◌, ◌++◌, ℕ, List, [], ◌∷◌, length, ap, sym, arith}
use Rattle.bip_defs.proofs.Sets.{upto_length, upto_more}
use Rattle.filled_columns.proofs.FullPairings.{parts_are}
use Rattle.filled_columns.proofs.parts.full_parts.Goals as goal

pub push_reserved-requires : goal.push_reserved-requires
push_reserved-requires c =
    let e = ap (λ (z : List ℕ). length z) c.loop-number.invariant.rows in
    let long = upto_length 0 c.loop-number.number in
    omega (arith, e, long, c.loop-number.invariant.room_rows, c.loop-number-test.true)

pub loop-number-preserved : goal.loop-number-preserved
loop-number-preserved c = record {
  rows = c.push_reserved.ensures.items ∙ ap (λ (z : List ℕ). z ++ c.loop-number.number ∷ []) c.loop-number.invariant.rows ∙ sym (upto_more c.loop-number.number);
  cols = c.push_reserved-in-loop-number.ensures.items ∙ ap (λ (z : List ℕ). z ++ c.loop-number.number ∷ []) c.loop-number.invariant.cols ∙ sym (upto_more c.loop-number.number);
  room_rows = omega (arith, c.push_reserved.ensures.capacity, c.loop-number.invariant.room_rows);
  room_cols = omega (arith, c.push_reserved-in-loop-number.ensures.capacity, c.loop-number.invariant.room_cols);
}

pub returns-clause-parts : goal.returns-clause-parts
returns-clause-parts c a m max rows columns long =
    let end : c.loop-number.number ≡ c.args.size = omega (arith, c.loop-number-test.false, c.loop-number.auto.number-end) in
    let parts = parts_are a m.pairs c.args.size max.maximum.matching long (sym max.matching.rows ∙ rows) (sym max.matching.cols ∙ columns) in
    rw (c.new.ensures.items, c.new-2.ensures.items, c.new-3.ensures.items, c.new-4.ensures.items, c.loop-number.invariant.rows, c.loop-number.invariant.cols, end) parts
