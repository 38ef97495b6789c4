use Rattle.std.proofs.Common.{◌∙◌, arith, rules, to_z-of_z, SFits, w64}
use Rattle.std.proofs.lemmas.Result.{err_from_is_err_and}
use Rattle.mm_reader.proofs.Judges.{uncapped, bad_range, bad_value, bad_triangle, good_place, same_triple}
use Rattle.mm_reader.proofs.judge.judge_place.Goals as goal

pub returns-in_err-row_id-clause-judged : goal.returns-in_err-row_id-clause-judged
returns-in_err-row_id-clause-judged c i j w ri ci v =
    let p = err_from_is_err_and c.from_residual.result c.from_residual.ensures.1 in
    rw (p.1, p.2) (bad_range c.args.header c.args.size i j w c.in_err-row_id.field-0.0 (c.in_err-row_id.ensures.judged i j ri ci))

pub returns-in_err-value-clause-judged : goal.returns-in_err-value-clause-judged
returns-in_err-value-clause-judged c i j w ri ci v =
    let p = err_from_is_err_and c.from_residual-in_err-value.result c.from_residual-in_err-value.ensures.1 in
    rw (p.1, p.2)
    (bad_value c.args.header c.args.size i j w (c.in_ok-row_id.ensures.judged i j ri ci).0 c.in_err-value.field-0.0 (c.in_err-value.ensures.judged w v))

pub returns-in-Some-clause-judged : goal.returns-in-Some-clause-judged
returns-in-Some-clause-judged c i j w ri ci v =
    let (good, row_is, col_is) = c.in_ok-row_id.ensures.judged i j ri ci in
    let (row_low, col_low) = c.in_ok-row_id.ensures.within in
    let r = uncapped c.args.size.rows i c.args.row ri (omega (arith, row_is, row_low)) (omega (arith, c.requires.rows)) in
    let k = uncapped c.args.size.cols j c.args.col ci (omega (arith, col_is, col_low)) (omega (arith, c.requires.cols)) in
    bad_triangle c.args.header c.args.size i j w good c.in-Some.kind (c.in_ok-value.ensures.judged w v).0 (c.in-Some.ensures i j r k)

pub returns-clause-judged : goal.returns-clause-judged
returns-clause-judged c i j w ri ci v =
    let (good, row_is, col_is) = c.in_ok-row_id.ensures.judged i j ri ci in
    let (row_low, col_low) = c.in_ok-row_id.ensures.within in
    let r = uncapped c.args.size.rows i c.args.row ri (omega (arith, row_is, row_low)) (omega (arith, c.requires.rows)) in
    let k = uncapped c.args.size.cols j c.args.col ci (omega (arith, col_is, col_low)) (omega (arith, c.requires.cols)) in
    let fits : SFits w64 c.in_ok-value.value = search rules in
    let (value_good, value_is) = c.in_ok-value.ensures.judged w v in
    good_place c.args.header c.args.size i j w good _ value_good (c.in_default.ensures i j r k)
    (same_triple c.in_ok-row_id.row_id c.in_ok-row_id.col_id i j _ _ row_is col_is (to_z-of_z fits ∙ value_is))
