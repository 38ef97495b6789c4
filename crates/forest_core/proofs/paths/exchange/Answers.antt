use Rattle.std.proofs.Common.{arith, subst, take}
use Rattle.bip_defs.specs.Lists.{Among}
use Rattle.bip_defs.proofs.Slices.{read_among}
use Rattle.forest_core.proofs.Currents.{path_entries}
use Rattle.forest_core.proofs.PathLemmas.{can_trace, exchanging_more, exchanging_start, path_in_range, root_held}
use Rattle.forest_core.proofs.paths.exchange.Goals as goal

pub loop-i-init : goal.loop-i-init
loop-i-init c = record { room = c.requires.room; exchanged = λ s e. exchanging_start s _ _ _ _ _ _ _ e c.replace_base-done.ensures.base }

pub at-requires-clause-within : goal.at-requires-clause-within
at-requires-clause-within c =
    let (s, e) = c.requires.forest in
    let held = root_held s _ _ _ _ _ c.index-roots-i.result e (read_among _ c.args.flipped.now.roots.now _ c.loop-i-test.true c.index-roots-i.is) in
    omega (arith, held.0, c.number.ensures)

pub at-requires-clause-some : goal.at-requires-clause-some
at-requires-clause-some c =
    let (s, e) = c.requires.forest in
    let held = root_held s _ _ _ _ _ c.index-roots-i.result e (read_among _ c.args.flipped.now.roots.now _ c.loop-i-test.true c.index-roots-i.is) in
    rw c.number.ensures (held.1, held.2)

pub trace-requires-clause-forest : goal.trace-requires-clause-forest
trace-requires-clause-forest c =
    let (s, e) = c.requires.forest in
    (s, take c.loop-i.i c.args.flipped.now.roots.now, c.index-roots-i.result, can_trace s _ _ _ _ _ _ _ _ _ e (c.loop-i.invariant.exchanged s e).1 c.loop-i-test.true c.index-roots-i.is (rw c.number.ensures at c.at.ensures))

pub flip-requires-clause-in_range : goal.flip-requires-clause-in_range
flip-requires-clause-in_range c = λ r x h.
    let (s, e) = c.requires.forest in
    let t = can_trace s _ _ _ _ _ _ _ _ _ e (c.loop-i.invariant.exchanged s e).1 c.loop-i-test.true c.index-roots-i.is (rw c.number.ensures at c.at.ensures) in
    path_in_range s _ _ _ _ _ c.trace.new.path.items t (c.trace.ensures.pairs s _ _ t) r x (subst (Among (r, x)) c.as_slice.ensures.value h)

pub flip-requires-clause-path : goal.flip-requires-clause-path
flip-requires-clause-path c = rw c.as_slice.ensures.value c.trace.ensures.augments

pub loop-i-preserved : goal.loop-i-preserved
loop-i-preserved c = record {
  room = c.trace.ensures.room;
  exchanged = λ s e.
      let t = can_trace s _ _ _ _ _ _ _ _ _ e (c.loop-i.invariant.exchanged s e).1 c.loop-i-test.true c.index-roots-i.is (rw c.number.ensures at c.at.ensures) in
      let path = c.trace.ensures.pairs s _ _ t in (
        omega (arith, c.loop-i-test.true),
        exchanging_more s _ _ _ _ _ _ _ c.trace.new.path.items t c.loop-i-test.true c.index-roots-i.is path (rw c.as_slice.ensures.value at c.flip.ensures.pairs) c.flip.ensures.sizes (c.flip.ensures.entries s.matrix t.exchanged.matching.matching (rw c.as_slice.ensures.value (path_entries s e.sound _ c.trace.new.path.items path))),
      );
}
