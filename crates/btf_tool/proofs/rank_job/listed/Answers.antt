use Rattle.std.proofs.Common.{◌≡◌, ◌∙◌, ◌<◌, ◌+◌, ℕ, ap, arith, length, rules, subst, sym, Vec, Global}
use Rattle.bip_defs.specs.Lists.{Lists}
use Rattle.bip_defs.specs.Lists.{IsMarked}
use Rattle.bip_defs.proofs.Below.{listed_more, listed_same}
use Rattle.btf_tool.proofs.rank_job.listed.Goals as goal
use Rattle.btf_tool.proofs.rank_job.listed.Goals.{then-marks-row+in_ok-push, else-marks-row}

pub loop-row-preserved : goal.loop-row-preserved
loop-row-preserved c =
    elim c.if-marks-row.branch [
      | then-marks-row+in_ok-push w ↦
          let marked : IsMarked c.args.marks.now c.loop-row.row = search rules in
          subst (Lists (λ d. (d < c.loop-row.row + 1) × IsMarked c.args.marks.now d)) (sym (ap (λ (v : Vec ℕ Global). v.items) w.rows-is ∙ w.in_ok-push.ensures.items)) (listed_more (IsMarked c.args.marks.now) c.loop-row.row c.loop-row.rows.items c.loop-row.invariant marked)
      | else-marks-row w ↦
          let unmarked : ¬ IsMarked c.args.marks.now c.loop-row.row = search rules in
          subst (Lists (λ d. (d < c.loop-row.row + 1) × IsMarked c.args.marks.now d)) (sym (ap (λ (v : Vec ℕ Global). v.items) w.rows-is)) (listed_same (IsMarked c.args.marks.now) c.loop-row.row c.loop-row.rows.items c.loop-row.invariant unmarked)
    ]

pub returns : goal.returns
returns c = subst (λ n. Lists (λ d. (d < n) × IsMarked c.args.marks.now d) c.loop-row.rows.items) (let e : c.loop-row.row ≡ length c.args.marks.now = omega (arith, c.loop-row.auto.row-end, c.loop-row-test.false) in e) c.loop-row.invariant
