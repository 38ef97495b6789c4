use Rattle.std.proofs.Common.{arith}
use Rattle.path_search.proofs.BatchLemmas.{gathers_more, gathers_none, numbers_at}
use Rattle.path_search.proofs.batches.gather.Goals as goal

pub loop-end-init : goal.loop-end-init
loop-end-init g c = record {
  after = omega arith;
  within = c.requires.from;
  room = omega arith;
  gathered = gathers_none _ _ _;
}

pub loop-end-preserved : goal.loop-end-preserved
loop-end-preserved g c =
    let k = c.loop-end.invariant in
    let rows = numbers_at g.F.Id.number c.args.batch.now.lists.now c.loop-end.end c.index-lists-end.result c.loop-end-test.true c.index-lists-end.is in
    record {
      after = (let before = k.after in omega arith);
      within = omega arith;
      room = omega arith;
      gathered = rw (c.append.ensures, ← rows) (gathers_more _ _ _ _ _ k.after k.gathered);
    }
