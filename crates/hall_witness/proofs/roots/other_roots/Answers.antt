use Rattle.std.proofs.Common.{◌≡◌, arith, inl, inr, length, refl, rules, subst}
use Rattle.bip_defs.specs.Matrix.{cols}
use Rattle.hall_witness.proofs.ScanLemmas.{AreQueued, queued_more, roots_counted, roots_queued}
use Rattle.hall_witness.proofs.roots.other_roots.Goals as goal

pub loop-col-init : goal.loop-col-init
loop-col-init g c = record { roots = c.requires.roots; queued = λ x lt. absurd (omega arith) }

pub loop-col-preserved : goal.loop-col-preserved
loop-col-preserved g c = record {
  roots = c.root.ensures.roots;
  queued = queued_more _ _ _ _ c.loop-col.invariant.queued c.root.ensures.queued.grows (λ out. (c.root.ensures.queued.exact c.loop-col.col).1 (inr (inl refl, out)));
}

pub returns-then-len-count-clause-search : goal.returns-then-len-count-clause-search
returns-then-len-count-clause-search g c =
    let all : length c.loop-col.trail.queue ≡ c.unmatched_count-count.result = search rules in
    let count = c.unmatched_count-count.ensures in
    roots_counted _ _ _ _ c.loop-col.invariant.roots c.requires.matching.matching (omega (arith, all, count))

pub returns-clause-search : goal.returns-clause-search
returns-clause-search g c =
    let end : c.loop-col.col ≡ cols (g.S.Side.matrix c.args.side.now) = omega (arith, c.cols-col-end.ensures, c.loop-col.auto.col-end, c.loop-col-test.false) in
    roots_queued _ _ _ _ c.loop-col.invariant.roots (subst (λ n. AreQueued (g.F.Opposite.seen c.args.matching.now).pairs n c.loop-col.trail.queue) end c.loop-col.invariant.queued)
