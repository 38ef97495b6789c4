use Rattle.std.proofs.Common.{◌≡◌, arith}
use Rattle.std.proofs.lemmas.List.{length-take-le}
use Rattle.path_search.proofs.BatchLemmas.{have_rows_front, have_rows_later}
use Rattle.path_search.proofs.GrownTrees.{extended_length, grow_more, grow_none}
use Rattle.path_search.proofs.SweepLemmas.{forest_short, progresses_more, progresses_none}
use Rattle.path_search.proofs.forest.SearchForest.batch.Goals as goal

pub look_up-count-requires-clause-in_range : goal.look_up-count-requires-clause-in_range
look_up-count-requires-clause-in_range g c = rw (c.queue.ensures, c.requires.growing.matching.cols) c.requires.growing.forest.in_range

pub loop-at-init : goal.loop-at-init
loop-at-init g c = record {
  within = omega arith;
  grown = grow_none _ _ _ c.requires.growing;
  progresses = progresses_none _ _ _ _;
}

pub look_through-at-requires-clause-batch : goal.look_through-at-requires-clause-batch
look_through-at-requires-clause-batch g c =
    let within = rw c.queue.ensures at c.look_up-count.ensures.within in
    let longer = extended_length _ _ c.loop-at.invariant.grown.extends in
    record {
      within = rw (length-take-le c.look_up-count.result c.look_up-count.new.lists c.look_up-count.ensures.room) (omega (arith, within, longer));
      lists_are = have_rows_front g.F.Id.number _ _ _ _ _ _ c.look_up-count.ensures.room (have_rows_later _ _ _ _ _ _ _ _ c.loop-at.invariant.grown.covered c.loop-at.invariant.grown.extends (rw c.queue.ensures at c.look_up-count.ensures.within) (rw c.queue.ensures at c.look_up-count.ensures.lists));
    }

pub loop-at-preserved : goal.loop-at-preserved
loop-at-preserved g c =
    let k = c.loop-at.invariant in
    let e = c.look_through-at.ensures in
    record {
      within = rw (length-take-le c.look_up-count.result c.look_up-count.new.lists c.look_up-count.ensures.room) at e.end.1;
      grown = grow_more _ _ _ _ _ _ _ k.grown e.grown;
      progresses = progresses_more _ _ _ _ _ _ _ _ _ _ k.progresses e.progresses;
    }

pub returns-clause-end : goal.returns-clause-end
returns-clause-end g c =
    let some = c.look_up-count.ensures.some (rw c.queue.ensures c.requires.place) c.requires.room in
    let within = rw c.queue.ensures at c.look_up-count.ensures.within in
    let longer = extended_length _ _ c.loop-at.invariant.grown.extends in
    (omega arith, omega arith)

pub returns-clause-progresses : goal.returns-clause-progresses
returns-clause-progresses g c =
    let end : c.loop-at.at ≡ c.look_up-count.result = (let within = c.loop-at.invariant.within in omega arith) in
    rw (← end) c.loop-at.invariant.progresses

pub overflow_cast-result : goal.overflow_cast-result
overflow_cast-result g c = let short = forest_short _ _ _ c.requires.growing.forest in let few = c.requires.growing.few_cols in let within = rw c.queue.ensures at c.look_up-count.ensures.within in omega arith

pub overflow_add-result : goal.overflow_add-result
overflow_add-result g c = let short = forest_short _ _ _ c.requires.growing.forest in let few = c.requires.growing.few_cols in let within = rw c.queue.ensures at c.look_up-count.ensures.within in omega arith
