use Rattle.std.proofs.Common.{◌≡◌, ◌≢◌, ◌∙◌, ℕ, ◌+◌, ◌<◌, ◌≤◌, List, get_or, length, arith, ap, sym, subst, ⊎_elim, rules}
use Rattle.bip_defs.specs.Lists.{Among}
use Rattle.bip_defs.specs.Matrix.{Matrix, Place}
use Rattle.bip_defs.proofs.Sets.{one_row, place_among}
use Rattle.bip_defs.proofs.Square.{square_col_matched}
use Rattle.square_components.specs.Numbers.{look}
use Rattle.square_components.specs.Stacks.{IsDepthFirst, PathState}
use Rattle.square_components.specs.Steps.{StaysMet}
use Rattle.square_components.proofs.EndLemmas.{at_among, part_row}
use Rattle.square_components.proofs.GraphLemmas.{less}
use Rattle.square_components.proofs.search.ComponentSearch.explore_all.Goals as goal
use Rattle.square_components.proofs.search.ComponentSearch.explore_all.Goals.{then-not-is_met, else-not-is_met}

pub row_of-row-requires : goal.row_of-row-requires
row_of-row-requires g c =
    let lt : c.loop-place.place < length (g.S.SquarePart.cols c.args.part) = omega (arith, c.loop-place-test.true, c.len-place-end.ensures, c.requires.part.same) in
    square_col_matched _ _ _ c.requires.part.maximum (c.requires.part.square_cols.sound _ (at_among _ _ _ c.col_at.ensures lt))

pub is_met-requires : goal.is_met-requires
is_met-requires g c =
    let row = part_row _ _ _ _ _ _ _ _ c.requires.part c.loop-place-test.true c.len-place-end.ensures c.col_at.ensures c.row_of-row.ensures in
    let i = row.0 in
    let e = c.loop-place.invariant.search.state.long in
    let v : c.row.inside.0 ≡ c.row_of-row.result = c.row.view_is in
    omega (arith, i, e, v)

pub explore-requires-clause-root : goal.explore-requires-clause-root
explore-requires-clause-root g c =
    let fresh : look c.loop-place.self.state c.row_of-row.result ≡ 0 = search rules in
    (part_row _ _ _ _ _ _ _ _ c.requires.part c.loop-place-test.true c.len-place-end.ensures c.col_at.ensures c.row_of-row.ensures, fresh)

pub loop-place-preserved : goal.loop-place-preserved
loop-place-preserved g c =
    let a : Matrix = g.C.ColumnLists.matrix c.args.columns in
    let pairs : List Place = g.S.SquarePart.pairs c.args.part in
    let cols : List ℕ = g.S.SquarePart.cols c.args.part in
    let n = c.loop-place.place in
    let s = c.loop-place.self in
    let k = c.loop-place.invariant in
    let so_far : (u : PathState) → StaysMet s.state u.state → look u.state c.row_of-row.result ≢ 0 → (i r : ℕ) → i < n + 1 → Among (r, get_or cols i 0) pairs → look u.state r ≢ 0 =
    (λ u stays met i r lt h. ⊎_elim
    (λ (before : i < n). stays r (k.met i r before h))
    (λ (from : n ≤ i).
    let i_is : i ≡ n = omega (arith, lt, from) in
    let pair : Among (r, c.col_at.result) pairs = subst (λ x. Among (r, x) pairs) (sym c.col_at.ensures) (subst (λ j. Among (r, get_or cols j 0) pairs) i_is h) in
    subst (λ x. look u.state x ≢ 0) (one_row pairs c.requires.part.maximum.matching.cols_differ c.row_of-row.result r c.col_at.result c.row_of-row.ensures pair) met)
    (less i n)) in
    elim c.if-not-is_met.branch [
      | then-not-is_met w ↦
          let u = w.explore.new.self in
          let e = w.self-is in
          record {
            search = subst (IsDepthFirst a (g.C.ColumnLists.listed c.args.columns) pairs) (sym e) w.explore.ensures.search;
            empty = ap (λ (x : PathState). x.frames) e ∙ w.explore.ensures.empty;
            met = subst (λ (x : PathState). (i r : ℕ) → i < n + 1 → Among (r, get_or cols i 0) pairs → look x.state r ≢ 0) (sym e) (so_far u w.explore.ensures.met w.explore.ensures.root);
          }
      | else-not-is_met w ↦
          let e = w.self-is in
          record {
            search = subst (IsDepthFirst a (g.C.ColumnLists.listed c.args.columns) pairs) (sym e) k.search;
            empty = ap (λ (x : PathState). x.frames) e ∙ k.empty;
            met = subst (λ (x : PathState). (i r : ℕ) → i < n + 1 → Among (r, get_or cols i 0) pairs → look x.state r ≢ 0) (sym e) (so_far s (λ r h. h) (subst (λ x. look s.state x ≢ 0) c.row.view_is w.if-not-is_met.ensures));
          }
    ]

pub returns-clause-met : goal.returns-clause-met
returns-clause-met g c =
    λ r col h there.
    let (k, lt, e) = place_among col 0 (g.S.SquarePart.cols c.args.part) h in
    let done : k < c.loop-place.place = omega (arith, lt, c.loop-place-test.false, c.len-place-end.ensures, c.requires.part.same) in
    c.loop-place.invariant.met k r done (subst (λ x. Among (r, x) (g.S.SquarePart.pairs c.args.part)) (sym e) there)
