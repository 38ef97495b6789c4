use Rattle.std.proofs.Common.{◌≡◌, ◌-◌, ◌+◌, List, ap, arith, sym, subst, ◌∙◌, ℕ}
use Rattle.std.proofs.lemmas.Result.{err_from_is_err_and}
use Rattle.bip_defs.specs.Matrix.{Place}
use Rattle.report_reader.specs.ReportGrammar.{pair_list_at}
use Rattle.report_reader.proofs.Prefixes.{no_prefix, with_prefix}
use Rattle.report_reader.proofs.PairLists.{pairs_done, pairs_more, pairs_stop}
use Rattle.report_reader.proofs.sections.pair_list_at.Goals as goal

pub returns-in_err-row : goal.returns-in_err-row
returns-in_err-row c =
    let p = err_from_is_err_and c.from_residual.result c.from_residual.ensures.1 in
    rw (p.1, p.2) (pairs_stop c.in_err-row.field-0.0 c.loop.pairs.items c.args.count c.loop.counter c.loop.rest.now (pair_list_at c.args.count c.args.bytes.now) c.loop-test.true c.in_err-row.ensures c.loop.invariant)

pub loop-init : goal.loop-init
loop-init c = rw c.new-pairs.ensures.items (no_prefix (pair_list_at (c.args.count - 0) c.args.bytes.now) ∙ ap (λ (k : ℕ). pair_list_at k c.args.bytes.now) (omega arith))

pub loop-preserved : goal.loop-preserved
loop-preserved c =
    subst (λ (ps : List Place). with_prefix ps (pair_list_at (c.args.count - (c.loop.counter + 1)) c.in_ok-row.after.now) ≡ pair_list_at c.args.count c.args.bytes.now)
    (sym c.in_ok-push.ensures.items)
    (pairs_more c.loop.pairs.items c.args.count c.loop.counter c.loop.rest.now ((c.in_ok-row.row, c.in_ok-row.col), c.in_ok-row.after.now) (pair_list_at c.args.count c.args.bytes.now) c.loop-test.true c.in_ok-row.ensures c.loop.invariant)

pub returns : goal.returns
returns c = pairs_done c.loop.pairs.items c.args.count c.loop.counter c.loop.rest.now (pair_list_at c.args.count c.args.bytes.now) c.loop-test.false c.loop.invariant
