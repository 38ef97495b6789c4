use Rattle.std.proofs.Common.{◌≡◌}
use Rattle.blocktri.proofs.PermutedLemmas.{not_filled, put_filled}
use Rattle.blocktri.proofs.permuted.write_permuted.Goals as goal
use Rattle.blocktri.proofs.permuted.write_permuted.Goals.{then-p-ne0, else-p-ne0, then-q-ne0, else-q-ne0}

pub returns-then-s-ne0-clause-p : goal.returns-then-s-ne0-clause-p
returns-then-s-ne0-clause-p c =
    elim c.if-p-ne0.branch [
      | then-p-ne0 w ↦ put_filled c.args.order.now.rows.items w.as_slice.result.now c.args.p.now w.write_at.new.out c.if-p-ne0.p c.requires.p w.if-p-ne0.true w.as_slice.ensures.value w.write_at.ensures w.p-is
      | else-p-ne0 w ↦ not_filled (c.if-p-ne0.p ≡ c.args.order.now.rows.items) c.args.p.now c.if-p-ne0.p w.if-p-ne0.false w.p-is
    ]

pub returns-then-s-ne0-clause-q : goal.returns-then-s-ne0-clause-q
returns-then-s-ne0-clause-q c =
    elim c.if-q-ne0.branch [
      | then-q-ne0 w ↦ put_filled c.args.order.now.columns.items w.as_slice-then-q-ne0.result.now c.args.q.now w.write_at-then-q-ne0.new.out c.if-q-ne0.q c.requires.q w.if-q-ne0.true w.as_slice-then-q-ne0.ensures.value w.write_at-then-q-ne0.ensures w.q-is
      | else-q-ne0 w ↦ not_filled (c.if-q-ne0.q ≡ c.args.order.now.columns.items) c.args.q.now c.if-q-ne0.q w.if-q-ne0.false w.q-is
    ]

pub returns-else-s-ne0-clause-p : goal.returns-else-s-ne0-clause-p
returns-else-s-ne0-clause-p c =
    elim c.if-p-ne0.branch [
      | then-p-ne0 w ↦ put_filled c.args.order.now.rows.items w.as_slice.result.now c.args.p.now w.write_at.new.out c.if-p-ne0.p c.requires.p w.if-p-ne0.true w.as_slice.ensures.value w.write_at.ensures w.p-is
      | else-p-ne0 w ↦ not_filled (c.if-p-ne0.p ≡ c.args.order.now.rows.items) c.args.p.now c.if-p-ne0.p w.if-p-ne0.false w.p-is
    ]

pub returns-else-s-ne0-clause-q : goal.returns-else-s-ne0-clause-q
returns-else-s-ne0-clause-q c =
    elim c.if-q-ne0.branch [
      | then-q-ne0 w ↦ put_filled c.args.order.now.columns.items w.as_slice-then-q-ne0.result.now c.args.q.now w.write_at-then-q-ne0.new.out c.if-q-ne0.q c.requires.q w.if-q-ne0.true w.as_slice-then-q-ne0.ensures.value w.write_at-then-q-ne0.ensures w.q-is
      | else-q-ne0 w ↦ not_filled (c.if-q-ne0.q ≡ c.args.order.now.columns.items) c.args.q.now c.if-q-ne0.q w.if-q-ne0.false w.q-is
    ]
