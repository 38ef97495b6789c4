use Rattle.std.proofs.Common.{◌<◌, ◌∙◌, ap, arith, sym, true≢false}
use Rattle.bip_defs.specs.Lists.{Among}
use Rattle.bip_defs.specs.Matching.{rows_of}
use Rattle.bip_defs.specs.Matrix.{Matrix}
use Rattle.bip_defs.proofs.Below.{listed_more, listed_same}
use Rattle.bip_defs.proofs.Sets.{lists_same}
use Rattle.tree_graft.proofs.frontiers.unclaimed_rows.Goals.{then-not-is_claimed+in_ok-push, else-not-is_claimed}
use Rattle.tree_graft.proofs.frontiers.unclaimed_rows.Goals as goal

pub loop-number-preserved : goal.loop-number-preserved
loop-number-preserved c = elim c.if-not-is_claimed.branch [
  | then-not-is_claimed+in_ok-push w ↦ rw (w.rows-is, w.in_ok-push.ensures.items) (listed_more (λ r. ¬ Among r (rows_of c.args.forest.now.claims)) c.loop-number.number c.loop-number.rows.items c.loop-number.invariant (λ h. true≢false (sym (c.is_claimed.ensures.1 h) ∙ w.if-not-is_claimed.true)))
  | else-not-is_claimed w ↦ rw w.rows-is (listed_same (λ r. ¬ Among r (rows_of c.args.forest.now.claims)) c.loop-number.number c.loop-number.rows.items c.loop-number.invariant (λ n. n (c.is_claimed.ensures.0 w.if-not-is_claimed.false)))
]

pub returns : goal.returns
returns c = lists_same (λ r. (r < c.loop-number.number) × (¬ Among r (rows_of c.args.forest.now.claims))) (λ r. (r < c.args.forest.now.matrix.rows) × (¬ Among r (rows_of c.args.forest.now.claims))) c.loop-number.rows.items (λ r h. (let lt = h.0 in omega (arith, lt, c.loop-number.auto.number-end, c.rows-number-end.ensures, ap (λ (a : Matrix). a.rows) c.pattern.ensures), h.1)) (λ r h. (let lt = h.0 in omega (arith, lt, c.loop-number-test.false, c.rows-number-end.ensures, ap (λ (a : Matrix). a.rows) c.pattern.ensures), h.1)) c.loop-number.invariant
