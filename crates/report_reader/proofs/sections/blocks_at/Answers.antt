use Rattle.std.proofs.Common.{◌≡◌, ◌∷◌, ◌++◌, [], List, ap, arith, ◌∙◌, ℕ, length, ap₂}
use Rattle.std.proofs.lemmas.Result.{err_from_is_err_and}
use Rattle.report_reader.specs.ReportGrammar.{blocks_at}
use Rattle.report_reader.proofs.BlockLists.{blocks_begin, blocks_done, blocks_more, blocks_stop}
use Rattle.report_reader.proofs.Listed.{block_takes}
use Rattle.report_reader.proofs.sections.blocks_at.Goals as goal

pub returns-in_err-rows : goal.returns-in_err-rows
returns-in_err-rows c =
    let p = err_from_is_err_and c.from_residual.result c.from_residual.ensures.1 in
    rw (p.1, p.2) (blocks_stop c.in_err-rows.field-0.0 c.args.room c.loop-at.read c.args.count c.loop-at.at c.loop-at.room c.loop-at.rest.now (blocks_at c.args.count 1 c.args.room c.args.bytes.now) c.loop-at.invariant c.loop-at-test.true c.in_err-rows.ensures)

pub loop-at-init : goal.loop-at-init
loop-at-init c = rw c.new-read.ensures (blocks_begin c.args.room c.args.count c.args.bytes.now)

pub overflow_sub-room : goal.overflow_sub-room
overflow_sub-room c =
    let t = block_takes _ _ _ _ c.in_ok-rows.ensures in
    omega (arith, t.fits, c.len.ensures, c.as_slice.ensures.len, ap length c.as_slice.ensures.value)

pub overflow_cast-room : goal.overflow_cast-room
overflow_cast-room c =
    let t = block_takes _ _ _ _ c.in_ok-rows.ensures in
    omega (arith, t.fits, c.len.ensures, c.as_slice.ensures.len, ap length c.as_slice.ensures.value, c.ranges.room.fits, c.loop-at.auto.room-fits)

pub loop-at-preserved : goal.loop-at-preserved
loop-at-preserved c =
    let long : length c.in_ok-rows.rows.items ≡ c.len.result = omega (arith, c.len.ensures, c.as_slice.ensures.len, ap length c.as_slice.ensures.value) in
    let pushed : c.push.new.self ≡ c.loop-at.read ++ record { rows = c.in_ok-rows.rows.items; cols = c.in_ok-rows.cols.items } ∷ [] =
    c.in_ok-push.ensures.ok ∙ ap₂ (λ (rows cols : List ℕ). c.loop-at.read ++ record { rows = rows; cols = cols } ∷ []) c.as_slice.ensures.value c.as_slice-in-loop-at.ensures.value in
    rw (pushed, ← long)
    (blocks_more c.args.room c.loop-at.read c.args.count c.loop-at.at c.loop-at.room c.loop-at.rest.now ((c.in_ok-rows.rows.items, c.in_ok-rows.cols.items), c.in_ok-rows.after.now) (blocks_at c.args.count 1 c.args.room c.args.bytes.now) c.loop-at.invariant c.loop-at-test.true c.in_ok-rows.ensures)

pub returns : goal.returns
returns c = blocks_done c.args.room c.loop-at.read c.args.count c.loop-at.at c.loop-at.room c.loop-at.rest.now (blocks_at c.args.count 1 c.args.room c.args.bytes.now) c.loop-at.invariant c.loop-at-test.false
