use Rattle.std.proofs.Common.{rules, ◌≢◌, ◌∙◌, ◌∷◌, sym, subst, arith}
use Rattle.bip_defs.proofs.Sets.{written_over}
use Rattle.bip_graph.specs.Matching.{none}
use Rattle.dm_fine.specs.Waits.{Holds}
use Rattle.dm_fine.proofs.StepLemmas.{looked_held, looked_next, taken_next}
use Rattle.dm_fine.proofs.WaitLemmas.{put}
use Rattle.dm_fine.proofs.condensation.Condensation.next.Goals as goal

pub returns-in-Some-clause-some : goal.returns-in-Some-clause-some
returns-in-Some-clause-some g c =
    let s = c.requires in
    let done = taken_next _ s.placed s.lists _ _ _ _ _ _ s.waiting c.in-Some.ensures.least c.in-Some.ensures.rising in
    record {
      placed = s.placed;
      lists = s.lists;
      waiting = done.0;
      next = done.1;
      bound = c.in-Some.ensures.bound ∙ s.bound;
      blocks = s.blocks;
    }

pub returns-then-stop-clause-some : goal.returns-then-stop-clause-some
returns-then-stop-clause-some g c =
    let s = c.loop-s.invariant.ordering in
    let value = c.as_slice.ensures.value in
    let stop = rw value at c.look-stop.ensures in
    let lt = c.loop-s-test.true in
    let many = c.count.ensures in
    let done = looked_next _ s.placed s.lists _ _ _ _ _ s.waiting c.loop-s.invariant.none_ready (omega (arith, lt, many)) stop (omega (arith, c.if-stop.true)) in
    record {
      placed = s.placed;
      lists = s.lists;
      waiting = done.0;
      next = done.1;
      bound = s.bound;
      blocks = s.blocks;
    }

pub loop-s-preserved : goal.loop-s-preserved
loop-s-preserved g c =
    let s = c.loop-s.invariant.ordering in
    let stop = rw c.as_slice.ensures.value at c.look-stop.ensures in
    let lt = c.loop-s-test.true in
    let many = c.count.ensures in
    let value = c.as_mut_slice.ensures.value in
    let held = rw value at c.hold.ensures in
    let items = written_over c.hold.new.waits c.loop-s.s.waits.items c.loop-s.s.waits.len held.long (search rules) in
    let on : c.look-stop.result.on ≢ none = λ e. c.if-stop.false e in
    record {
      ordering = record {
        placed = s.placed;
        lists = put s.lists c.look-stop.result.on (c.loop-s.s.cursor ∷ s.lists c.look-stop.result.on);
        waiting = looked_held _ s.placed s.lists _ _ _ _ _ c.look-stop.result s.waiting (omega (arith, lt, many)) stop on
            (subst (Holds c.loop-s.s.waits.items c.loop-s.s.cursor c.look-stop.result) (sym items) held);
        bound = s.bound;
        blocks = s.blocks;
      };
      none_ready = c.loop-s.invariant.none_ready;
      same = c.loop-s.invariant.same;
    }
