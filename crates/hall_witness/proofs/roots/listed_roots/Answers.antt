use Rattle.std.proofs.Common.{◌≡◌, arith, length, refl, rules}
use Rattle.bip_defs.proofs.Sets.{among_at}
use Rattle.hall_witness.proofs.ScanLemmas.{none_queued, queued_early, queued_on, queued_whole, roots_counted}
use Rattle.hall_witness.proofs.roots.listed_roots.Goals as goal

pub loop-col-init : goal.loop-col-init
loop-col-init g c = record { roots = c.requires.roots; queued = none_queued _ _ }

pub root-requires-clause-col : goal.root-requires-clause-col
root-requires-clause-col g c = c.requires.in_range _ (among_at c.args.list.now c.loop-col.col-index 0 c.loop-col-test.true)

pub loop-col-preserved : goal.loop-col-preserved
loop-col-preserved g c = record {
  roots = c.root.ensures.roots;
  queued = queued_on _ c.args.list.now c.loop-col.col-index _ _ _ _ c.loop-col.invariant.queued c.root.ensures.queued c.loop-col-test.true refl;
}

pub returns-then-len-count-clause-queued : goal.returns-then-len-count-clause-queued
returns-then-len-count-clause-queued g c =
    let all : length c.loop-col.trail.queue ≡ c.unmatched_count-count.result = search rules in
    let count = c.unmatched_count-count.ensures in
    queued_early _ _ _ c.args.list.now c.loop-col.col-index _ _ c.loop-col.invariant.queued (roots_counted _ _ _ _ c.loop-col.invariant.roots c.requires.matching.matching (omega (arith, all, count))) c.requires.in_range

pub returns-clause-queued : goal.returns-clause-queued
returns-clause-queued g c = queued_whole _ c.args.list.now c.loop-col.col-index _ _ c.loop-col.invariant.queued (omega (arith, c.loop-col-test.false))
