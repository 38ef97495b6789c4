use Rattle.std.proofs.Common.{◌≡◌, ◌∷◌, ◌++◌, [], List, ◌∙◌, ℕ, ap, ap₂, arith, length}
use Rattle.std.proofs.lemmas.Result.{err_from_is_err_and}
use Rattle.report_reader.specs.ReportGrammar.{numbered_at}
use Rattle.report_reader.proofs.ComponentLists.{component_takes, numbered_begin, numbered_done, numbered_more, numbered_stop}
use Rattle.report_reader.proofs.sections.numbered_at.Goals as goal

pub returns-in_err-rows : goal.returns-in_err-rows
returns-in_err-rows c =
    let p = err_from_is_err_and c.from_residual.result c.from_residual.ensures.1 in
    rw (p.1, p.2) (numbered_stop c.in_err-rows.field-0.0 c.loop-at.read c.args.count c.loop-at.at c.loop-at.rest.now (numbered_at c.args.count 1 c.args.bytes.now) c.loop-at.invariant c.loop-at-test.true c.in_err-rows.ensures)

pub loop-at-init : goal.loop-at-init
loop-at-init c = rw c.new-read.ensures (numbered_begin c.args.count c.args.bytes.now)

pub push-requires-clause-rows : goal.push-requires-clause-rows
push-requires-clause-rows c = let t = component_takes _ _ _ c.in_ok-rows.ensures in omega (arith, t.like.rows.few, ap length c.as_slice.ensures.value)

pub push-requires-clause-cols : goal.push-requires-clause-cols
push-requires-clause-cols c = let t = component_takes _ _ _ c.in_ok-rows.ensures in omega (arith, t.like.cols.few, ap length c.as_slice-in-loop-at.ensures.value)

pub loop-at-preserved : goal.loop-at-preserved
loop-at-preserved c =
    let pushed : c.push.new.self ≡ c.loop-at.read ++ record { rows = c.in_ok-rows.rows.items; cols = c.in_ok-rows.cols.items } ∷ [] =
    c.in_ok-push.ensures.ok ∙ ap₂ (λ (rows cols : List ℕ). c.loop-at.read ++ record { rows = rows; cols = cols } ∷ []) c.as_slice.ensures.value c.as_slice-in-loop-at.ensures.value in
    rw pushed
    (numbered_more c.loop-at.read c.args.count c.loop-at.at c.loop-at.rest.now ((c.in_ok-rows.rows.items, c.in_ok-rows.cols.items), c.in_ok-rows.after.now) (numbered_at c.args.count 1 c.args.bytes.now) c.loop-at.invariant c.loop-at-test.true c.in_ok-rows.ensures)

pub returns : goal.returns
returns c = numbered_done c.loop-at.read c.args.count c.loop-at.at c.loop-at.rest.now (numbered_at c.args.count 1 c.args.bytes.now) c.loop-at.invariant c.loop-at-test.false
