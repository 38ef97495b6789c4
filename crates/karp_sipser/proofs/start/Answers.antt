use Rattle.std.proofs.Common.{arith}
use Rattle.karp_sipser.proofs.TakenPairs.{choice_free, way_begins, way_ends, way_goes_on, way_matching, way_room}
use Rattle.karp_sipser.proofs.start.Goals as goal

pub take-requires-clause-free : goal.take-requires-clause-free
take-requires-clause-free c = rw c.choose.ensures.matching (choice_free _ _ c.in-Some.ensures.choice)

pub loop-row-init : goal.loop-row-init
loop-row-init c = (c.in_ok-rest.ensures.rest, c.in_ok-rest.ensures.ones, way_begins c.args.pattern.now _ c.in_ok-rest.ensures.empty)

pub loop-row-preserved : goal.loop-row-preserved
loop-row-preserved c =
    let adds = rw c.choose.ensures.matching at c.take.ensures.pairs in
    let longer = rw c.choose.ensures.matching at c.take.ensures.size in
    (c.take.ensures.rest, c.take.ensures.ones, way_goes_on c.args.pattern.now c.loop-row.rest.matching.pairs c.take.new.self.matching.pairs _ c.loop-row.invariant.2 c.in-Some.ensures.choice adds longer)

pub loop-row-smaller : goal.loop-row-smaller
loop-row-smaller c =
    let adds = rw c.choose.ensures.matching at c.take.ensures.pairs in
    let longer = rw c.choose.ensures.matching at c.take.ensures.size in
    let room = way_room c.args.pattern.now c.take.new.self.matching.pairs (way_goes_on c.args.pattern.now c.loop-row.rest.matching.pairs c.take.new.self.matching.pairs _ c.loop-row.invariant.2 c.in-Some.ensures.choice adds longer) in
    omega (arith, longer, room)

pub returns-clause-start : goal.returns-clause-start
returns-clause-start c = rw c.choose.ensures.matching (way_ends c.args.pattern.now c.loop-row.rest.matching.pairs c.loop-row.invariant.2 c.in_default.ensures.none)

pub returns-clause-matching : goal.returns-clause-matching
returns-clause-matching c = record {
  rows = c.choose.ensures.rest.same_rows;
  cols = c.choose.ensures.rest.same_cols;
  matching = rw c.choose.ensures.matching (way_matching c.args.pattern.now c.loop-row.rest.matching.pairs c.loop-row.invariant.2 (rw c.choose.ensures.matching at c.is_matching.ensures.rows_differ) (rw c.choose.ensures.matching at c.is_matching.ensures.cols_rise));
}

pub returns-clause-maximal : goal.returns-clause-maximal
returns-clause-maximal c = rw c.choose.ensures.matching c.in_default.ensures.none
