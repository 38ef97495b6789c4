use Rattle.std.proofs.Common.{◌≡◌, ◌+◌, ◌+ℤ◌, ◌<◌, ◌∙◌, arith, get_or, length, pos, refl, rules, FitsSigned}
use Rattle.std.specs.Int.{w64, w128}
use Rattle.std.proofs.lemmas.Int.{to_z-of_z}
use Rattle.std.proofs.lemmas.List.{get_or_default}
use Rattle.sp_pattern.proofs.SumLemmas.{so_far_start, sum_fits}
use Rattle.sp_pattern.proofs.ValuedLemmas.{AreValued, valued_at, valued_entry, valued_end, valued_id, valued_inside, valued_next, valued_rise}
use Rattle.sp_pattern.specs.ValuedColumns.{entries_given}
use Rattle.sp_pattern.proofs.valued_columns.column_sums.Goals as goal

pub loop-col-init : goal.loop-col-init
loop-col-init g c = rw (c.requires.columns.starts_are.first, c.in_ok-sums.ensures, c.entries.ensures) (so_far_start _ _)

pub at-from-requires : goal.at-from-requires
at-from-requires g c =
    let v : AreValued c.args.pattern.now (g.N.NumberList.numbers c.args.starts) (g.N.NumberList.numbers c.args.ids) c.args.values.now = record { columns = c.requires.columns; matrix_is = c.requires.matrix; long = c.requires.values } in
    let inside = valued_inside _ _ _ _ c.loop-col.col _ v c.cols-col-end.ensures c.loop-col-test.true in
    omega (arith, inside)

pub at-to-requires : goal.at-to-requires
at-to-requires g c = valued_inside _ _ _ _ c.loop-col.col _ (record { columns = c.requires.columns; matrix_is = c.requires.matrix; long = c.requires.values }) c.cols-col-end.ensures c.loop-col-test.true

pub loop-k-init : goal.loop-k-init
loop-k-init g c = record {
  near = omega arith;
  sums = rw c.at-from.ensures c.loop-col.invariant;
}

pub at-requires : goal.at-requires
at-requires g c =
    let t = c.loop-k-test.true in
    let to = c.at-to.ensures in
    valued_id c.args.pattern.now (g.N.NumberList.numbers c.args.starts) (g.N.NumberList.numbers c.args.ids) c.args.values.now c.loop-col.col _ c.loop-k.k (record { columns = c.requires.columns; matrix_is = c.requires.matrix; long = c.requires.values })
    c.cols-col-end.ensures c.loop-col-test.true (omega (arith, t, to))

pub overflow_cast-at : goal.overflow_cast-at
overflow_cast-at g c =
    let t = c.loop-k-test.true in
    let to = c.at-to.ensures in
    let id = valued_id c.args.pattern.now (g.N.NumberList.numbers c.args.starts) (g.N.NumberList.numbers c.args.ids) c.args.values.now c.loop-col.col _ c.loop-k.k (record { columns = c.requires.columns; matrix_is = c.requires.matrix; long = c.requires.values })
    c.cols-col-end.ensures c.loop-col-test.true (omega (arith, t, to)) in
    let below = c.requires.columns.inside c.loop-k.k id in
    let few = c.requires.columns.few_rows in
    rw c.at.ensures (omega (arith, below, few))

pub place_near-near-requires-clause-rising : goal.place_near-near-requires-clause-rising
place_near-near-requires-clause-rising g c = rw c.rows_of-rows.ensures.column c.span-first.ensures.rising

pub place_near-near-requires-clause-listed : goal.place_near-near-requires-clause-listed
place_near-near-requires-clause-listed g c =
    let t = c.loop-k-test.true in
    let from = c.loop-k.auto.k in
    let begins = c.at-from.ensures in
    let to = c.at-to.ensures in
    let lt : c.loop-col.col < _ = c.loop-col-test.true in
    let n = c.cols-col-end.ensures in
    rw (c.at.ensures, c.rows_of-rows.ensures.column)
    (valued_entry c.args.pattern.now (g.N.NumberList.numbers c.args.starts) (g.N.NumberList.numbers c.args.ids) c.args.values.now c.loop-col.col c.loop-k.k (record { columns = c.requires.columns; matrix_is = c.requires.matrix; long = c.requires.values })
    (omega (arith, lt, n)) (omega (arith, from, begins)) (omega (arith, t, to))).1

pub place_near-near-requires-clause-near : goal.place_near-near-requires-clause-near
place_near-near-requires-clause-near g c = c.loop-k.invariant.near

pub overflow_add-at : goal.overflow_add-at
overflow_add-at g c =
    let t = c.loop-k-test.true in
    let from = c.loop-k.auto.k in
    let begins = c.at-from.ensures in
    let to = c.at-to.ensures in
    let at = valued_at c.args.pattern.now (g.N.NumberList.numbers c.args.starts) (g.N.NumberList.numbers c.args.ids) c.args.values.now c.loop-k.sums.items c.loop-col.col _ c.loop-k.k _ _ _ _ (record { columns = c.requires.columns; matrix_is = c.requires.matrix; long = c.requires.values })
    c.cols-col-end.ensures c.loop-col-test.true (omega (arith, from, begins)) (omega (arith, t, to)) c.loop-k.invariant.sums c.span-first.ensures.from c.place_near-near.ensures.place c.at.ensures c.rows_of-rows.ensures.column in
    let inside = at.1 in
    let ok = c.loop-k.sums.ok in
    omega (arith, inside, ok)

pub offset_bounds-values-k : goal.offset_bounds-values-k
offset_bounds-values-k g c =
    let t = c.loop-k-test.true in
    let to = c.at-to.ensures in
    let id = valued_id c.args.pattern.now (g.N.NumberList.numbers c.args.starts) (g.N.NumberList.numbers c.args.ids) c.args.values.now c.loop-col.col _ c.loop-k.k (record { columns = c.requires.columns; matrix_is = c.requires.matrix; long = c.requires.values })
    c.cols-col-end.ensures c.loop-col-test.true (omega (arith, t, to)) in
    let long = c.requires.values in
    let lt : c.loop-k.k < length c.args.values.now = omega (arith, id, long) in
    search rules

pub bounds-values-k : goal.bounds-values-k
bounds-values-k g c =
    let t = c.loop-k-test.true in
    let to = c.at-to.ensures in
    let id = valued_id c.args.pattern.now (g.N.NumberList.numbers c.args.starts) (g.N.NumberList.numbers c.args.ids) c.args.values.now c.loop-col.col _ c.loop-k.k (record { columns = c.requires.columns; matrix_is = c.requires.matrix; long = c.requires.values })
    c.cols-col-end.ensures c.loop-col-test.true (omega (arith, t, to)) in
    let long = c.requires.values in
    let lt : c.loop-k.k < length c.args.values.now = omega (arith, id, long) in
    lt

pub index-requires : goal.index-requires
index-requires g c =
    let t = c.loop-k-test.true in
    let from = c.loop-k.auto.k in
    let begins = c.at-from.ensures in
    let to = c.at-to.ensures in
    let at = valued_at c.args.pattern.now (g.N.NumberList.numbers c.args.starts) (g.N.NumberList.numbers c.args.ids) c.args.values.now c.loop-k.sums.items c.loop-col.col _ c.loop-k.k _ _ _ _ (record { columns = c.requires.columns; matrix_is = c.requires.matrix; long = c.requires.values })
    c.cols-col-end.ensures c.loop-col-test.true (omega (arith, from, begins)) (omega (arith, t, to)) c.loop-k.invariant.sums c.span-first.ensures.from c.place_near-near.ensures.place c.at.ensures c.rows_of-rows.ensures.column in
    let inside = at.1 in
    let ok = c.loop-k.sums.ok in
    omega (arith, inside, ok)

pub added-requires : goal.added-requires
added-requires g c =
    let t = c.loop-k-test.true in
    let to = c.at-to.ensures in
    let id = valued_id c.args.pattern.now (g.N.NumberList.numbers c.args.starts) (g.N.NumberList.numbers c.args.ids) c.args.values.now c.loop-col.col _ c.loop-k.k (record { columns = c.requires.columns; matrix_is = c.requires.matrix; long = c.requires.values })
    c.cols-col-end.ensures c.loop-col-test.true (omega (arith, t, to)) in
    let long = c.requires.values in
    let lt : c.loop-k.k < length c.args.values.now = omega (arith, id, long) in
    let from = c.loop-k.auto.k in
    let begins = c.at-from.ensures in
    let at = valued_at c.args.pattern.now (g.N.NumberList.numbers c.args.starts) (g.N.NumberList.numbers c.args.ids) c.args.values.now c.loop-k.sums.items c.loop-col.col _ c.loop-k.k _ _ _ _ (record { columns = c.requires.columns; matrix_is = c.requires.matrix; long = c.requires.values })
    c.cols-col-end.ensures c.loop-col-test.true (omega (arith, from, begins)) (omega (arith, t, to)) c.loop-k.invariant.sums c.span-first.ensures.from c.place_near-near.ensures.place c.at.ensures c.rows_of-rows.ensures.column in
    let few : c.loop-k.k < 4294967296 = let most = c.requires.columns.few_ids in omega (arith, id, most) in
    let read : c.index.result.now ≡ get_or c.loop-k.sums.items (c.span-first.result.0 + c.place_near-near.result) (pos 0) = c.index.ensures ∙ get_or_default c.loop-k.sums.items (c.span-first.result.0 + c.place_near-near.result) c.index.result.now (pos 0) at.1 in
    let narrow : FitsSigned w64 (get_or c.args.values.now c.loop-k.k (pos 0)) = search rules in
    let wide : FitsSigned w128 c.index.result.now = search rules in
    let sum = sum_fits (entries_given c.args.pattern.now.rows (g.N.NumberList.numbers c.args.starts) (g.N.NumberList.numbers c.args.ids) c.args.values.now) c.args.pattern.now c.loop-k.k c.loop-k.sums.items (c.span-first.result.0 + c.place_near-near.result) _ c.index.result.now c.loop-k.invariant.sums few narrow read in
    rw (to_z-of_z w128 c.index.result.now wide, to_z-of_z w64 _ narrow) sum

pub index_mut-requires : goal.index_mut-requires
index_mut-requires g c =
    let t = c.loop-k-test.true in
    let from = c.loop-k.auto.k in
    let begins = c.at-from.ensures in
    let to = c.at-to.ensures in
    let at = valued_at c.args.pattern.now (g.N.NumberList.numbers c.args.starts) (g.N.NumberList.numbers c.args.ids) c.args.values.now c.loop-k.sums.items c.loop-col.col _ c.loop-k.k _ _ _ _ (record { columns = c.requires.columns; matrix_is = c.requires.matrix; long = c.requires.values })
    c.cols-col-end.ensures c.loop-col-test.true (omega (arith, from, begins)) (omega (arith, t, to)) c.loop-k.invariant.sums c.span-first.ensures.from c.place_near-near.ensures.place c.at.ensures c.rows_of-rows.ensures.column in
    let inside = at.1 in
    let ok = c.loop-k.sums.ok in
    omega (arith, inside, ok)

pub loop-k-smaller : goal.loop-k-smaller
loop-k-smaller g c = let t = c.loop-k-test.true in omega (arith, t)

pub loop-k-preserved : goal.loop-k-preserved
loop-k-preserved g c =
    let t = c.loop-k-test.true in
    let to = c.at-to.ensures in
    let id = valued_id c.args.pattern.now (g.N.NumberList.numbers c.args.starts) (g.N.NumberList.numbers c.args.ids) c.args.values.now c.loop-col.col _ c.loop-k.k (record { columns = c.requires.columns; matrix_is = c.requires.matrix; long = c.requires.values })
    c.cols-col-end.ensures c.loop-col-test.true (omega (arith, t, to)) in
    let long = c.requires.values in
    let lt : c.loop-k.k < length c.args.values.now = omega (arith, id, long) in
    let from = c.loop-k.auto.k in
    let begins = c.at-from.ensures in
    let at = valued_at c.args.pattern.now (g.N.NumberList.numbers c.args.starts) (g.N.NumberList.numbers c.args.ids) c.args.values.now c.loop-k.sums.items c.loop-col.col _ c.loop-k.k _ _ _ _ (record { columns = c.requires.columns; matrix_is = c.requires.matrix; long = c.requires.values })
    c.cols-col-end.ensures c.loop-col-test.true (omega (arith, from, begins)) (omega (arith, t, to)) c.loop-k.invariant.sums c.span-first.ensures.from c.place_near-near.ensures.place c.at.ensures c.rows_of-rows.ensures.column in
    let few : c.loop-k.k < 4294967296 = let most = c.requires.columns.few_ids in omega (arith, id, most) in
    let read : c.index.result.now ≡ get_or c.loop-k.sums.items (c.span-first.result.0 + c.place_near-near.result) (pos 0) = c.index.ensures ∙ get_or_default c.loop-k.sums.items (c.span-first.result.0 + c.place_near-near.result) c.index.result.now (pos 0) at.1 in
    let narrow : FitsSigned w64 (get_or c.args.values.now c.loop-k.k (pos 0)) = search rules in
    let wide : FitsSigned w128 c.index.result.now = search rules in
    let sum = sum_fits (entries_given c.args.pattern.now.rows (g.N.NumberList.numbers c.args.starts) (g.N.NumberList.numbers c.args.ids) c.args.values.now) c.args.pattern.now c.loop-k.k c.loop-k.sums.items (c.span-first.result.0 + c.place_near-near.result) _ c.index.result.now c.loop-k.invariant.sums few narrow read in
    let added : c.added.result ≡ c.index.result.now +ℤ get_or c.args.values.now c.loop-k.k (pos 0) = rw (to_z-of_z w128 c.index.result.now wide, to_z-of_z w64 _ narrow) at c.added.ensures in
    let made : FitsSigned w128 c.added.result = rw added sum in
    let near = c.place_near-near.ensures.within in
    let end = c.cols-col-end.ensures in
    let col = c.loop-col-test.true in
    record {
      near = omega (arith, near);
      sums = rw (to_z-of_z w128 c.added.result made)
          (valued_next c.args.pattern.now (g.N.NumberList.numbers c.args.starts) (g.N.NumberList.numbers c.args.ids) c.args.values.now c.loop-col.col c.loop-k.k (c.span-first.result.0 + c.place_near-near.result) c.loop-k.sums.items c.index.result.now c.added.result
          (get_or c.args.values.now c.loop-k.k (pos 0)) (record { columns = c.requires.columns; matrix_is = c.requires.matrix; long = c.requires.values }) (λ d. (c.is_pattern.ensures.columns d).rising) (omega (arith, col, end)) (omega (arith, from, begins)) (omega (arith, t, to)) c.loop-k.invariant.sums refl narrow at.0 read added);
    }

pub loop-col-smaller : goal.loop-col-smaller
loop-col-smaller g c = let t = c.loop-col-test.true in omega (arith, t)

pub loop-col-preserved : goal.loop-col-preserved
loop-col-preserved g c =
    let from = c.at-from.ensures in
    let to = c.at-to.ensures in
    let rise = valued_rise c.args.pattern.now (g.N.NumberList.numbers c.args.starts) (g.N.NumberList.numbers c.args.ids) c.args.values.now c.loop-col.col _ (record { columns = c.requires.columns; matrix_is = c.requires.matrix; long = c.requires.values }) c.cols-col-end.ensures c.loop-col-test.true in
    let until = c.loop-k.auto.k-end (omega (arith, from, to, rise)) in
    let stop = c.loop-k-test.false in
    let end : c.loop-k.k ≡ get_or (g.N.NumberList.numbers c.args.starts) (c.loop-col.col + 1) 0 = omega (arith, to, until, stop) in
    rw (← end) c.loop-k.invariant.sums

pub returns : goal.returns
returns g c =
    let stop = c.loop-col-test.false in
    let until = c.loop-col.auto.col-end in
    valued_end c.args.pattern.now (g.N.NumberList.numbers c.args.starts) (g.N.NumberList.numbers c.args.ids) c.args.values.now c.loop-col.col _ c.loop-col.sums.items (record { columns = c.requires.columns; matrix_is = c.requires.matrix; long = c.requires.values }) c.cols-col-end.ensures (omega (arith, stop, until)) c.loop-col.invariant
