use Rattle.std.proofs.Common.{rules, ◌≡◌, ◌∙◌, length, refl, sym, ap, subst, arith, vec_len}
use Rattle.std.proofs.lemmas.List.{get_or_read}
use Rattle.bip_defs.proofs.Sets.{written_over}
use Rattle.bip_graph.specs.Matching.{none}
use Rattle.dm_fine.specs.Waits.{Chain, Holds, idle}
use Rattle.dm_fine.specs.declared.waits.Wait.{Wait}
use Rattle.dm_fine.proofs.OrderLemmas.{follow_range}
use Rattle.dm_fine.proofs.ReleaseLemmas.{head_of, list_empty, released_held, released_ready}
use Rattle.dm_fine.proofs.StepLemmas.{closed, some_of}
use Rattle.dm_fine.proofs.condensation.Condensation.release.Goals as goal

pub index-requires : goal.index-requires
index-requires g c =
    let s = c.requires in
    let long : vec_len c.args.s.now.waits ≡ length c.args.s.now.waits.items = search rules in
    let in_range = follow_range _ _ s.placed c.args.own s.waiting.follow s.on in
    let many = s.waiting.many in
    omega (arith, long, in_range, many)

pub loop-next-init : goal.loop-next-init
loop-next-init g c =
    let s = c.requires in
    let in_range = follow_range _ _ s.placed c.args.own s.waiting.follow s.on in
    let many = s.waiting.many in
    let read = get_or_read c.args.s.now.waits.items c.args.own c.index.result.now (omega (arith, in_range, many)) c.index.ensures idle in
    record {
      releasing = record {
        placed = s.placed;
        lists = s.lists;
        waiting = s.waiting;
        on = s.on;
        chain = subst (λ p. Chain c.args.s.now.waits.items p (s.lists c.args.own)) (sym (ap (λ (v : Wait). v.first) read)) s.chain;
        bound = s.bound;
        blocks = s.blocks;
      };
      same = refl;
    }

pub index-wait-requires : goal.index-wait-requires
index-wait-requires g c =
    let s = c.loop-next.invariant.releasing in
    let long : vec_len c.loop-next.s.waits ≡ length c.loop-next.s.waits.items = search rules in
    let h = head_of _ _ s.lists _ c.loop-next.next _ _ _ _ s.waiting s.chain c.loop-next-test.true in
    let in_range = h.in_range in
    let many = s.waiting.many in
    omega (arith, long, in_range, many)

pub look-stop-requires-clause-own : goal.look-stop-requires-clause-own
look-stop-requires-clause-own g c =
    let s = c.loop-next.invariant.releasing in
    (head_of _ _ s.lists _ c.loop-next.next _ _ _ _ s.waiting s.chain c.loop-next-test.true).in_range

pub look-stop-requires-clause-passed : goal.look-stop-requires-clause-passed
look-stop-requires-clause-passed g c =
    let s = c.loop-next.invariant.releasing in
    let h = head_of _ _ s.lists _ c.loop-next.next _ _ _ _ s.waiting s.chain c.loop-next-test.true in
    let in_range = h.in_range in
    let many = s.waiting.many in
    let read = get_or_read c.loop-next.s.waits.items c.loop-next.next c.index-wait.result.now (omega (arith, in_range, many)) c.index-wait.ensures idle in
    rw (c.as_slice.ensures.value, read) h.passed

pub insert-requires : goal.insert-requires
insert-requires g c =
    let s = c.loop-next.invariant.releasing in
    let in_range = (head_of _ _ s.lists _ c.loop-next.next _ _ _ _ s.waiting s.chain c.loop-next-test.true).in_range in
    let bound = s.bound in
    omega (arith, in_range, bound)

pub loop-next-smaller-then-stop : goal.loop-next-smaller-then-stop
loop-next-smaller-then-stop g c =
    let s = c.loop-next.invariant.releasing in
    let in_range = (head_of _ _ s.lists _ c.loop-next.next _ _ _ _ s.waiting s.chain c.loop-next-test.true).in_range in
    let many = s.waiting.many in
    let read = get_or_read c.loop-next.s.waits.items c.loop-next.next c.index-wait.result.now (omega (arith, in_range, many)) c.index-wait.ensures idle in
    let stop = rw c.as_slice.ensures.value at c.look-stop.ensures in
    let done = released_ready _ s.placed s.lists c.args.own c.loop-next.next _ c.loop-next.s.waits.items c.loop-next.s.ready.members c.insert.new.self.members c.loop-next.s.cursor c.look-stop.result c.index-wait.result.now s.waiting s.on s.chain c.loop-next-test.true read stop c.if-stop.true c.insert.ensures.members in
    done.shorter

pub loop-next-preserved-then-stop : goal.loop-next-preserved-then-stop
loop-next-preserved-then-stop g c =
    let s = c.loop-next.invariant.releasing in
    let in_range = (head_of _ _ s.lists _ c.loop-next.next _ _ _ _ s.waiting s.chain c.loop-next-test.true).in_range in
    let many = s.waiting.many in
    let read = get_or_read c.loop-next.s.waits.items c.loop-next.next c.index-wait.result.now (omega (arith, in_range, many)) c.index-wait.ensures idle in
    let stop = rw c.as_slice.ensures.value at c.look-stop.ensures in
    let done = released_ready _ s.placed s.lists c.args.own c.loop-next.next _ c.loop-next.s.waits.items c.loop-next.s.ready.members c.insert.new.self.members c.loop-next.s.cursor c.look-stop.result c.index-wait.result.now s.waiting s.on s.chain c.loop-next-test.true read stop c.if-stop.true c.insert.ensures.members in
    record {
      releasing = record {
        placed = s.placed;
        lists = done.lists;
        waiting = done.waiting;
        on = s.on;
        chain = done.chain;
        bound = c.insert.ensures.bound ∙ s.bound;
        blocks = s.blocks;
      };
      same = c.loop-next.invariant.same;
    }

pub loop-next-smaller : goal.loop-next-smaller
loop-next-smaller g c =
    let s = c.loop-next.invariant.releasing in
    let in_range = (head_of _ _ s.lists _ c.loop-next.next _ _ _ _ s.waiting s.chain c.loop-next-test.true).in_range in
    let many = s.waiting.many in
    let read = get_or_read c.loop-next.s.waits.items c.loop-next.next c.index-wait.result.now (omega (arith, in_range, many)) c.index-wait.ensures idle in
    let stop = rw c.as_slice.ensures.value at c.look-stop.ensures in
    let value = c.as_mut_slice.ensures.value in
    let held = rw value at c.hold.ensures in
    let items = written_over c.hold.new.waits c.loop-next.s.waits.items c.loop-next.s.waits.len held.long (search rules) in
    let done = released_held _ s.placed s.lists c.args.own c.loop-next.next _ c.loop-next.s.waits.items _ c.loop-next.s.ready.members c.loop-next.s.cursor c.look-stop.result c.index-wait.result.now s.waiting s.on s.chain c.loop-next-test.true read stop c.if-stop.false (subst (Holds c.loop-next.s.waits.items c.loop-next.next c.look-stop.result) (sym items) held) in
    done.shorter

pub loop-next-preserved : goal.loop-next-preserved
loop-next-preserved g c =
    let s = c.loop-next.invariant.releasing in
    let in_range = (head_of _ _ s.lists _ c.loop-next.next _ _ _ _ s.waiting s.chain c.loop-next-test.true).in_range in
    let many = s.waiting.many in
    let read = get_or_read c.loop-next.s.waits.items c.loop-next.next c.index-wait.result.now (omega (arith, in_range, many)) c.index-wait.ensures idle in
    let stop = rw c.as_slice.ensures.value at c.look-stop.ensures in
    let value = c.as_mut_slice.ensures.value in
    let held = rw value at c.hold.ensures in
    let items = written_over c.hold.new.waits c.loop-next.s.waits.items c.loop-next.s.waits.len held.long (search rules) in
    let done = released_held _ s.placed s.lists c.args.own c.loop-next.next _ c.loop-next.s.waits.items _ c.loop-next.s.ready.members c.loop-next.s.cursor c.look-stop.result c.index-wait.result.now s.waiting s.on s.chain c.loop-next-test.true read stop c.if-stop.false (subst (Holds c.loop-next.s.waits.items c.loop-next.next c.look-stop.result) (sym items) held) in
    record {
      releasing = record {
        placed = s.placed;
        lists = done.lists;
        waiting = done.waiting;
        on = s.on;
        chain = done.chain;
        bound = s.bound;
        blocks = s.blocks;
      };
      same = c.loop-next.invariant.same;
    }

pub returns-clause-ordering : goal.returns-clause-ordering
returns-clause-ordering g c =
    let s = c.loop-next.invariant.releasing in
    let ends : c.loop-next.next ≡ none = omega (arith, c.loop-next-test.false) in
    let empty = list_empty _ c.loop-next.next (s.lists c.args.own) s.chain (λ x h. let b = (s.waiting.are_held x c.args.own h).before in let w = s.waiting.within in some_of _ x s.waiting.laid_out (omega (arith, b, w))) ends in
    record {
      placed = s.placed;
      lists = s.lists;
      waiting = closed _ _ _ _ _ _ _ _ s.waiting empty;
      bound = s.bound;
      blocks = s.blocks;
    }
