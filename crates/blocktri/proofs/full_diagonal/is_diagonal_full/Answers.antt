use Rattle.std.proofs.Common.{◌≡◌, ◌∙◌, ℕ, ◌-◌, ◌<◌, length, ap, arith, refl, sym}
use Rattle.blocktri.specs.Compressed.{CompressedLists}
use Rattle.blocktri.proofs.CompressedLemmas.{listed_cols}
use Rattle.blocktri.proofs.full_diagonal.is_diagonal_full.Goals as goal
use Rattle.blocktri.proofs.full_diagonal.is_diagonal_full.Goals.{then-others-lists, else-others-lists}

pub has_id_of-requires-clause-list : goal.has_id_of-requires-clause-list
has_id_of-requires-clause-list g c =
    let l = c.args.matrix.now in
    let starts : g.N.NumberList.numbers c.matrix.inside.starts ≡ l.starts = ap (λ (v : CompressedLists). v.starts) c.matrix.view_is in
    let lt = c.loop-side-test.true in
    let len = c.len.ensures ∙ ap length starts in
    elim c.if-others-lists.branch [
      | then-others-lists w ↦ let is = w.sides-is in let less = w.if-others-lists.true in omega (arith, lt, is, less, len)
      | else-others-lists w ↦ let is = w.sides-is in omega (arith, lt, is, len)
    ]

pub returns-then-not-has_id_of : goal.returns-then-not-has_id_of
returns-then-not-has_id_of g c =
    let l = c.args.matrix.now in
    let others : c.matrix.inside.others ≡ l.others = ap (λ (v : CompressedLists). v.others) c.matrix.view_is in
    let starts : g.N.NumberList.numbers c.matrix.inside.starts ≡ l.starts = ap (λ (v : CompressedLists). v.starts) c.matrix.view_is in
    let side = c.loop-side.side in
    let lt = c.loop-side-test.true in
    let len = c.len.ensures ∙ ap length starts in
    let wide = listed_cols l in
    let both : (side < l.others) × (side < length l.starts - 1) = elim c.if-others-lists.branch [
      | then-others-lists w ↦ let is = w.sides-is in let less = w.if-others-lists.true in (omega (arith, lt, is, others), omega (arith, lt, is, less, len))
      | else-others-lists w ↦ let is = w.sides-is in let le = w.if-others-lists.false in (omega (arith, lt, is, le, others), omega (arith, lt, is, len))
    ] in (
      λ told. absurd (cc),
      λ full. let column = both.1 in sym c.if-not-has_id_of.true ∙ c.has_id_of.ensures.1 (full side both.0 (omega (arith, column, wide))),
    )

pub returns : goal.returns
returns g c =
    let l = c.args.matrix.now in
    let others : c.matrix.inside.others ≡ l.others = ap (λ (v : CompressedLists). v.others) c.matrix.view_is in
    let starts : g.N.NumberList.numbers c.matrix.inside.starts ≡ l.starts = ap (λ (v : CompressedLists). v.starts) c.matrix.view_is in
    let len = c.len.ensures ∙ ap length starts in
    let end = c.loop-side-test.false in
    let wide = listed_cols l in
    let all : (i : ℕ) → i < l.others → i < length l.starts - 1 → i < c.loop-side.side = λ i row col. elim c.if-others-lists.branch [
      | then-others-lists w ↦ let is = w.sides-is in omega (arith, row, end, is, others)
      | else-others-lists w ↦ let is = w.sides-is in omega (arith, col, end, is, len)
    ] in (
      λ told i row col. c.loop-side.invariant i (all i row (omega (arith, col, wide))),
      λ full. refl,
    )
