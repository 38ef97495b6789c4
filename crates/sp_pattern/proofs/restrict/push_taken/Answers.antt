use Rattle.std.proofs.Common.{◌∙◌, ℕ, ap, sym, Vec, Global}
use Rattle.sp_pattern.proofs.RestrictLemmas.{taking_no, taking_yes}
use Rattle.sp_pattern.proofs.restrict.push_taken.Goals as goal
use Rattle.sp_pattern.proofs.restrict.push_taken.Goals.{then-takes+in_ok-push, else-takes}

pub loop-k-preserved : goal.loop-k-preserved
loop-k-preserved g c =
    elim c.if-takes.branch [
      | then-takes+in_ok-push w ↦ taking_yes (g.C.Choice.takes c.args.choice.now) c.args.from c.loop-k.k _ c.args.column.now c.args.rows.now.items c.loop-k.rows.items _ c.loop-k-test.true w.index-column-k.is (sym c.takes.ensures ∙ w.if-takes.true) c.loop-k.invariant (ap (λ (v : Vec ℕ Global). v.items) w.rows-is ∙ w.in_ok-push.ensures.items)
      | else-takes w ↦ taking_no (g.C.Choice.takes c.args.choice.now) c.args.from c.loop-k.k c.args.column.now c.args.rows.now.items c.loop-k.rows.items _ c.loop-k-test.true (sym c.takes.ensures ∙ w.if-takes.false) c.loop-k.invariant (ap (λ (v : Vec ℕ Global). v.items) w.rows-is)
    ]
