use Rattle.std.proofs.Common.{arith, ◌≡◌, length}
use Rattle.sp_pattern.proofs.RestrictLemmas.{taking_end, taking_step}
use Rattle.sp_pattern.proofs.pattern.Pattern.taken_columns.Goals as goal

pub loop-col-preserved : goal.loop-col-preserved
loop-col-preserved g c =
    let long : length c.loop-col.rows.items ≡ c.len.result = let n = c.len.ensures in let ok = c.loop-col.rows.ok in omega (arith, n, ok) in
    taking_step c.args.self.now (g.C.Choice.takes c.args.choice.now) c.loop-col.col c.span-from.result.0 c.loop-col.starts.items c.fill_starts.new.starts.items c.loop-col.rows.items c.push_taken.new.rows.items c.rows_of.result.now c.span-from.ensures.rising c.loop-col.invariant
    (let n = c.cols-cols.ensures in let t = c.loop-col-test.true in omega (arith, n, t)) c.in_ok-fill_starts.ensures.opened (λ ds k. c.in_ok-fill_starts.ensures.compressed ds c.loop-col.rows.items long k) c.span-from.ensures.from c.rows_of.ensures.column c.in_ok-push_taken.ensures

pub returns : goal.returns
returns g c =
    let long : length c.loop-col.rows.items ≡ c.len-2.result = let n = c.len-2.ensures in let ok = c.loop-col.rows.ok in omega (arith, n, ok) in
    let n = c.cols-cols.ensures in
    taking_end c.args.self.now (g.C.Choice.takes c.args.choice.now) c.loop-col.col c.loop-col.starts.items c.fill_starts-2.new.starts.items c.loop-col.rows.items c.is_pattern.ensures.columns c.loop-col.invariant
    (let f = c.loop-col-test.false in let e = c.loop-col.auto.col-end in omega (arith, f, e, n)) (let o = c.in_ok-fill_starts-2.ensures.opened in omega (arith, o, n)) (λ ds k. c.in_ok-fill_starts-2.ensures.compressed ds c.loop-col.rows.items long k)
