use Rattle.std.proofs.Common.{◌≡◌, ◌∙◌, ◌+◌, ◌-◌, ℕ, arith, length, sym}
use Rattle.bip_defs.specs.Matrix.{IsEntry, cols}
use Rattle.bip_defs.proofs.Sets.{entry_col, upto_mapped}
use Rattle.sp_pattern.specs.Columns.{matrix_of}
use Rattle.blocktri.proofs.LookLemmas.{cols_matched_maximum, columns_more, covered_more, covered_none, entries_more, full_rows_maximum, given_row, look_matching, no_entries, rows_matched_maximum, start_inside}
use Rattle.blocktri.proofs.first_look.first_look.Goals as goal
use Rattle.blocktri.proofs.first_look.first_look.Goals.{in-Some, in-None+then-from-to, in-None+else-from-to}

pub first_unmatched-requires-clause-to : goal.first_unmatched-requires-clause-to
first_unmatched-requires-clause-to g c =
    let lt = c.loop-col-test.true in
    let len = c.len.ensures in
    let one = c.requires.starts_are.one in
    let within = start_inside (g.N.NumberList.numbers c.args.starts) (g.N.NumberList.numbers c.args.ids) c.requires.starts_are (c.loop-col.col + 1) (omega (arith, lt, len, one)) in
    rw c.at-to.ensures within

pub first_unmatched-requires-clause-rows : goal.first_unmatched-requires-clause-rows
first_unmatched-requires-clause-rows g c = λ k from before.
    let lt = c.loop-col-test.true in
    let len = c.len.ensures in
    let one = c.requires.starts_are.one in
    let within = start_inside (g.N.NumberList.numbers c.args.starts) (g.N.NumberList.numbers c.args.ids) c.requires.starts_are (c.loop-col.col + 1) (omega (arith, lt, len, one)) in
    let to = c.at-to.ensures in
    let inside = c.requires.inside k (omega (arith, within, to, before)) in
    let rows = c.loop-col.invariant.rows in
    omega (arith, inside, rows)

pub pair-requires-clause-col_free : goal.pair-requires-clause-col_free
pair-requires-clause-col_free g c = λ on. let lt = c.loop-col.invariant.before c.loop-col.col on in omega (arith, lt)

pub overflow_add-missed : goal.overflow_add-missed
overflow_add-missed g c =
    let few = c.loop-col.invariant.few in
    let lt = c.loop-col-test.true in
    let len = c.len.ensures in
    let starts = c.requires.few_starts in
    omega (arith, few, lt, len, starts)

pub loop-col-preserved : goal.loop-col-preserved
loop-col-preserved g c =
    let inv = c.loop-col.invariant in
    let lt = c.loop-col-test.true in
    let len = c.len.ensures in
    let starts = g.N.NumberList.numbers c.args.starts in
    let ids = g.N.NumberList.numbers c.args.ids in
    let a = matrix_of c.args.rows starts ids in
    let few = inv.few in
    elim c.match-first_unmatched.branch [
      | in-Some w ↦
          let given = rw (c.at-from.ensures, c.at-to.ensures) at w.in-Some.ensures.given in
          let entry : IsEntry a w.in-Some.row c.loop-col.col = (c.columns_give_their_places.ensures.entries c.args.rows starts ids w.in-Some.row c.loop-col.col c.requires).1 (omega (arith, lt, len), given) in
          rw (w.matching-is, w.missed-is) (record {
            rows = w.pair.ensures.sizes.0 ∙ inv.rows;
            cols = w.pair.ensures.sizes.1 ∙ inv.cols;
            pairing = w.pair.ensures.pairing;
            entries = entries_more a c.loop-col.matching.pairs w.pair.new.self.pairs w.in-Some.row c.loop-col.col w.pair.ensures.added entry inv.entries;
            before = columns_more c.loop-col.matching.pairs w.pair.new.self.pairs w.in-Some.row c.loop-col.col w.pair.ensures.added inv.before;
            few = omega (arith, few);
            covered = λ none. covered_more a c.loop-col.matching.pairs w.pair.new.self.pairs w.in-Some.row c.loop-col.col w.pair.ensures.added (inv.covered none);
          })
      | in-None+then-from-to w ↦
          rw (w.matching-is, w.missed-is) (record {
            rows = inv.rows;
            cols = inv.cols;
            pairing = inv.pairing;
            entries = inv.entries;
            before = λ d on. let under = inv.before d on in omega (arith, under);
            few = omega (arith, few);
            covered = λ none. absurd (omega (arith, none));
          })
      | in-None+else-from-to w ↦
          let none : (r : ℕ) → ¬ IsEntry a r c.loop-col.col = no_entries a (length starts - 1) starts ids c.loop-col.col (λ r. c.columns_give_their_places.ensures.entries c.args.rows starts ids r c.loop-col.col c.requires)
          (let f = w.if-from-to.false in let from = c.at-from.ensures in let to = c.at-to.ensures in omega (arith, f, from, to)) in
          rw (w.matching-is, w.missed-is) (record {
            rows = inv.rows;
            cols = inv.cols;
            pairing = inv.pairing;
            entries = inv.entries;
            before = λ d on. let under = inv.before d on in omega (arith, under);
            few = omega (arith, few);
            covered = λ zero. covered_none a c.loop-col.matching.pairs c.loop-col.col none (inv.covered zero);
          })
    ]

pub returns-then-missed-eq0 : goal.returns-then-missed-eq0
returns-then-missed-eq0 g c =
    let starts = g.N.NumberList.numbers c.args.starts in
    let ids = g.N.NumberList.numbers c.args.ids in
    let a = matrix_of c.args.rows starts ids in
    let wide : cols (matrix_of c.args.rows starts ids) ≡ length starts - 1 = upto_mapped _ _ in
    let len = c.len.ensures in
    let end = c.loop-col-test.false in
    let is = look_matching a c.loop-col.matching c.loop-col.invariant.rows (c.loop-col.invariant.cols ∙ sym wide) c.loop-col.invariant.entries c.loop-col.invariant.pairing in
    record { matching = is; maximum = cols_matched_maximum a c.loop-col.matching.pairs is.matching (λ r d e. c.loop-col.invariant.covered c.if-missed-eq0.true r d (let within = entry_col a r d e in omega (arith, within, wide, len, end)) e) }

pub returns-then-size-rows : goal.returns-then-size-rows
returns-then-size-rows g c =
    let starts = g.N.NumberList.numbers c.args.starts in
    let ids = g.N.NumberList.numbers c.args.ids in
    let a = matrix_of c.args.rows starts ids in
    let wide : cols (matrix_of c.args.rows starts ids) ≡ length starts - 1 = upto_mapped _ _ in
    let is = look_matching a c.loop-col.matching c.loop-col.invariant.rows (c.loop-col.invariant.cols ∙ sym wide) c.loop-col.invariant.entries c.loop-col.invariant.pairing in
    record { matching = is; maximum = full_rows_maximum a c.loop-col.matching.pairs is.matching (let size = c.size.ensures.size in let test = c.if-size-rows.true in omega (arith, size, test)) }

pub returns-in-Some-eq0 : goal.returns-in-Some-eq0
returns-in-Some-eq0 g c =
    let starts = g.N.NumberList.numbers c.args.starts in
    let ids = g.N.NumberList.numbers c.args.ids in
    let a = matrix_of c.args.rows starts ids in
    let wide : cols (matrix_of c.args.rows starts ids) ≡ length starts - 1 = upto_mapped _ _ in
    let is = look_matching a c.loop-col.matching c.loop-col.invariant.rows (c.loop-col.invariant.cols ∙ sym wide) c.loop-col.invariant.entries c.loop-col.invariant.pairing in
    record { matching = is; maximum = rows_matched_maximum a c.loop-col.matching.pairs is.matching (λ r d e. given_row c.loop-col.matching.pairs starts ids ((rw c.in-Some-eq0.is at c.in_ok-fewer_unmatched.ensures) c.in-Some-eq0.field-0-test) r d ((c.columns_give_their_places.ensures.entries c.args.rows starts ids r d c.requires).0 e).1) }

pub returns-in-Some-2 : goal.returns-in-Some-2
returns-in-Some-2 g c =
    let a = matrix_of c.args.rows (g.N.NumberList.numbers c.args.starts) (g.N.NumberList.numbers c.args.ids) in
    let wide : cols (matrix_of c.args.rows (g.N.NumberList.numbers c.args.starts) (g.N.NumberList.numbers c.args.ids)) ≡ length (g.N.NumberList.numbers c.args.starts) - 1 = upto_mapped _ _ in
    look_matching a c.loop-col.matching c.loop-col.invariant.rows (c.loop-col.invariant.cols ∙ sym wide) c.loop-col.invariant.entries c.loop-col.invariant.pairing

pub returns-in-None-2 : goal.returns-in-None-2
returns-in-None-2 g c =
    let a = matrix_of c.args.rows (g.N.NumberList.numbers c.args.starts) (g.N.NumberList.numbers c.args.ids) in
    let wide : cols (matrix_of c.args.rows (g.N.NumberList.numbers c.args.starts) (g.N.NumberList.numbers c.args.ids)) ≡ length (g.N.NumberList.numbers c.args.starts) - 1 = upto_mapped _ _ in
    look_matching a c.loop-col.matching c.loop-col.invariant.rows (c.loop-col.invariant.cols ∙ sym wide) c.loop-col.invariant.entries c.loop-col.invariant.pairing
