use Rattle.std.proofs.Common.{◌<◌, ◌∙◌, List, ℕ, length, get_or, ap, sym, subst, arith}
use Rattle.std.proofs.lemmas.List.{map-id}
use Rattle.dm_fine.specs.Waits.{StopsAt}
use Rattle.dm_fine.proofs.LookLemmas.{col_within, item_is, line_fits, passed_column, passed_end, passed_part, row_within, width_fits}
use Rattle.id_groups.specs.Groups.{group}
use Rattle.dm_fine.proofs.condensation.Condensation.look.Goals as goal

pub rows_of-requires : goal.rows_of-requires
rows_of-requires g c =
    let same = rw map-id at c.of-cols.ensures in
    let is = item_is _ _ _ _ same c.loop-k-test.true c.index-cols-k.is in
    let lt : c.loop-k.k < length (group c.args.self.now.cols c.args.own) = let w = ap length same in let t = c.loop-k-test.true in omega (arith, w, t) in
    let within = col_within _ c.args.own c.loop-k.k c.requires.layout c.requires.own lt in
    omega (arith, within, is)

pub stop_in-at-requires : goal.stop_in-at-requires
stop_in-at-requires g c = record {
  rows = λ i it.
      let same = rw map-id at c.of-cols.ensures in
      let is = item_is _ _ _ _ same c.loop-k-test.true c.index-cols-k.is in
      let line = c.rows_of.ensures ∙ ap (g.C.ColumnLists.listed c.args.self.now.columns) (sym is) in
      let lt : c.loop-k.k < length (group c.args.self.now.cols c.args.own) = let w = ap length same in let t = c.loop-k-test.true in omega (arith, w, t) in
      let within = row_within _ c.args.own c.loop-k.k i c.requires.layout c.requires.own lt (subst (λ (xs : List ℕ). i < length xs) line it) in
      let at = ap (λ (xs : List ℕ). get_or xs i 0) line in
      let long = c.requires.rows in
      omega (arith, within, at, long);
}

pub overflow_cast-result : goal.overflow_cast-result
overflow_cast-result g c =
    let same = rw map-id at c.of-cols.ensures in
    let w = ap length same in
    let fits = width_fits _ c.args.own c.requires.layout c.requires.own in
    omega (arith, w, fits, c.loop-k-test.true)

pub overflow_cast-result-then-on : goal.overflow_cast-result-then-on
overflow_cast-result-then-on g c =
    let same = rw map-id at c.of-cols.ensures in
    let is = item_is _ _ _ _ same c.loop-k-test.true c.index-cols-k.is in
    let line = c.rows_of.ensures ∙ ap (g.C.ColumnLists.listed c.args.self.now.columns) (sym is) in
    let lt : c.loop-k.k < length (group c.args.self.now.cols c.args.own) = let w = ap length same in let t = c.loop-k-test.true in omega (arith, w, t) in
    let fits = line_fits _ c.args.own c.loop-k.k c.requires.layout c.requires.own lt in
    let long = ap length line in
    let stops = (c.stop_in-at.ensures.stops c.if-on.true).0 in
    omega (arith, fits, long, stops)

pub loop-k-preserved : goal.loop-k-preserved
loop-k-preserved g c =
    let same = rw map-id at c.of-cols.ensures in
    let is = item_is _ _ _ _ same c.loop-k-test.true c.index-cols-k.is in
    let line = c.rows_of.ensures ∙ ap (g.C.ColumnLists.listed c.args.self.now.columns) (sym is) in
    passed_column _ _ _ _ c.loop-k.from _ _ c.loop-k.invariant
    (subst (λ (xs : List ℕ). StopsAt c.args.of_rows.now xs c.args.own c.loop-k.from c.stop_in-at.result.0 c.stop_in-at.result.1) line c.stop_in-at.ensures)
    (omega (arith, c.if-on.false))

pub overflow_cast-result-2 : goal.overflow_cast-result-2
overflow_cast-result-2 g c =
    let same = rw map-id at c.of-cols.ensures in
    let w = ap length same in
    let fits = width_fits _ c.args.own c.requires.layout c.requires.own in
    omega (arith, w, fits)

pub returns-then-on : goal.returns-then-on
returns-then-on g c =
    let same = rw map-id at c.of-cols.ensures in
    let is = item_is _ _ _ _ same c.loop-k-test.true c.index-cols-k.is in
    let line = c.rows_of.ensures ∙ ap (g.C.ColumnLists.listed c.args.self.now.columns) (sym is) in
    let lt : c.loop-k.k < length (group c.args.self.now.cols c.args.own) = let w = ap length same in let t = c.loop-k-test.true in omega (arith, w, t) in
    let at = subst (λ (xs : List ℕ). StopsAt c.args.of_rows.now xs c.args.own c.loop-k.from c.stop_in-at.result.0 c.stop_in-at.result.1) line c.stop_in-at.ensures in
    let stops = at.stops c.if-on.true in
    record {
      passed = passed_part _ _ _ _ c.loop-k.from _ _ c.loop-k.invariant at;
      ends = λ e. absurd (c.if-on.true e);
      within = λ ne. (lt, stops.0);
      other = λ ne. (stops.2, stops.3);
    }

pub returns : goal.returns
returns g c =
    let same = rw map-id at c.of-cols.ensures in
    let w = ap length same in
    record {
      passed = passed_end _ _ _ _ c.loop-k.from _ c.loop-k.invariant (let t = c.loop-k-test.false in omega (arith, t));
      ends = λ e. w;
      within = λ ne. absurd (ne (omega arith));
      other = λ ne. absurd (ne (omega arith));
    }
