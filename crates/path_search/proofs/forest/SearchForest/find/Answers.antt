use Rattle.std.proofs.Common.{◌≡◌, ◌-◌, arith, length}
use Rattle.path_search.proofs.GrownTrees.{extends_more, room_more}
use Rattle.path_search.proofs.ShortestLemmas.{descended, ends_at, falls, root_unmatched}
use Rattle.path_search.proofs.SweepLemmas.{forest_short}
use Rattle.path_search.proofs.forest.SearchForest.find.Goals as goal

pub visit-requires-clause-room : goal.visit-requires-clause-room
visit-requires-clause-room g c = λ d pair un. room_more _ _ _ c.in-Some.row d c.requires.growing.matching.matching c.loop-row.invariant.forest pair un

pub returns-then-visit-clause-forest : goal.returns-then-visit-clause-forest
returns-then-visit-clause-forest g c =
    let k = c.loop-row.invariant in
    (ends_at _ _ _ _ c.in-Some.row _ _ k.forest k.within c.at-column.ensures c.in-Some.ensures.row.0 k.unmatched (rw c.if-visit.true at c.visit.ensures)).forest

pub returns-then-visit-clause-extends : goal.returns-then-visit-clause-extends
returns-then-visit-clause-extends g c =
    let k = c.loop-row.invariant in
    extends_more _ _ _ k.extends (ends_at _ _ _ _ c.in-Some.row _ _ k.forest k.within c.at-column.ensures c.in-Some.ensures.row.0 k.unmatched (rw c.if-visit.true at c.visit.ensures)).extends

pub returns-then-visit-clause-found : goal.returns-then-visit-clause-found
returns-then-visit-clause-found g c =
    let k = c.loop-row.invariant in
    (ends_at _ _ _ _ c.in-Some.row _ _ k.forest k.within c.at-column.ensures c.in-Some.ensures.row.0 k.unmatched (rw c.if-visit.true at c.visit.ensures)).ends

pub overflow_cast-place : goal.overflow_cast-place
overflow_cast-place g c =
    let k = c.loop-row.invariant in
    let d = descended _ _ _ _ c.in-Some.row _ _ c.requires.growing.matching.matching k.forest k.within c.at-column.ensures c.in-Some.ensures.row.0 (rw c.marks.ensures at c.in-Some.ensures.row.1) (rw c.if-visit.false at c.visit.ensures) in
    let short = forest_short _ _ _ d.forest in
    let few = c.requires.growing.few_cols in
    let count = c.reached.ensures in
    omega (arith, short, few, count)

pub loop-row-smaller-in-Some : goal.loop-row-smaller-in-Some
loop-row-smaller-in-Some g c =
    let k = c.loop-row.invariant in
    let d = descended _ _ _ _ c.in-Some.row _ _ c.requires.growing.matching.matching k.forest k.within c.at-column.ensures c.in-Some.ensures.row.0 (rw c.marks.ensures at c.in-Some.ensures.row.1) (rw c.if-visit.false at c.visit.ensures) in
    let count = c.reached.ensures in
    let longer = d.longer in
    falls _ _ _ _ _ longer (forest_short _ _ _ d.forest) (omega (arith, count, longer))

pub loop-row-preserved-in-Some : goal.loop-row-preserved-in-Some
loop-row-preserved-in-Some g c =
    let k = c.loop-row.invariant in
    let d = descended _ _ _ _ c.in-Some.row _ _ c.requires.growing.matching.matching k.forest k.within c.at-column.ensures c.in-Some.ensures.row.0 (rw c.marks.ensures at c.in-Some.ensures.row.1) (rw c.if-visit.false at c.visit.ensures) in
    let count = c.reached.ensures in
    let longer = d.longer in
    let same : c.reached.result - 1 ≡ length c.loop-row.self.queue = omega (arith, count, longer) in
    record {
      forest = d.forest;
      extends = extends_more _ _ _ k.extends d.extends;
      layers = c.next_row.ensures.layers;
      within = omega (arith, count, longer);
      unmatched = root_unmatched _ c.loop-row.self.queue _ c.at-column.result c.loop-row.place (c.reached.result - 1) (length c.loop-row.self.queue) same d.last c.at-column.ensures k.unmatched;
    }
