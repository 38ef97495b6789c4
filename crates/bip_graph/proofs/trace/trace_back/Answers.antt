use Rattle.std.proofs.Common.{◌∙◌, ◌-◌, ◌<◌, ap, arith, length, refl, reverse, rules, suc}
use Rattle.bip_graph.proofs.TraceLemmas.{grown_length, tracing_end, tracing_more, tracing_room, tracing_start, turned_round}
use Rattle.bip_graph.proofs.trace.trace_back.Goals as goal

pub loop-row-init : goal.loop-row-init
loop-row-init g c = record {
  tracing = tracing_start (g.T.Parents.pairs c.args.trees.now) (g.T.Parents.reached c.args.trees.now) c.args.leaf (g.T.Parents.column c.args.from) c.push_reserved.new.self.items c.requires.depth c.requires.leaf (rw (c.push_reserved.ensures.items, c.clear.ensures.items, c.col.ensures) refl);
  kept = c.requires.kept;
  room = (let start = c.requires.room in let cleared = c.clear.ensures.capacity in let more = c.push_reserved.ensures.capacity in omega (arith, start, cleared, more));
  capacity = (let cleared = c.clear.ensures.capacity in let more = c.push_reserved.ensures.capacity in omega (arith, cleared, more));
}

pub push_reserved-requires-in-Some : goal.push_reserved-requires-in-Some
push_reserved-requires-in-Some g c =
    let i = c.loop-row.invariant in
    let le = tracing_room (g.T.Parents.pairs c.args.trees.now) (g.T.Parents.reached c.args.trees.now) _ _ _ _ _ c.loop-row.path.items c.requires.trees c.requires.leaf i.tracing c.in-Some.ensures.pair c.in-Some.ensures.parent in
    let room = i.room in
    search rules

pub loop-row-smaller : goal.loop-row-smaller
loop-row-smaller g c =
    let i = c.loop-row.invariant in
    let le = tracing_room (g.T.Parents.pairs c.args.trees.now) (g.T.Parents.reached c.args.trees.now) _ _ _ _ _ c.loop-row.path.items c.requires.trees c.requires.leaf i.tracing c.in-Some.ensures.pair c.in-Some.ensures.parent in
    let longer = grown_length _ _ _ c.push_reserved-in-Some.ensures.items in
    let smaller : suc (length (g.T.Parents.pairs c.args.trees.now)) - length c.push_reserved-in-Some.new.self.items < suc (length (g.T.Parents.pairs c.args.trees.now)) - length c.loop-row.path.items = omega (arith, le, longer) in
    smaller

pub loop-row-preserved : goal.loop-row-preserved
loop-row-preserved g c =
    let i = c.loop-row.invariant in record {
      tracing = tracing_more _ _ _ _ _ _ _ _ _ c.requires.trees c.requires.leaf i.tracing c.in-Some.ensures.pair c.in-Some.ensures.parent (rw c.col-in-Some.ensures at c.push_reserved-in-Some.ensures.items);
      kept = c.in-Some.ensures.kept;
      room = (let start = i.room in let more = c.push_reserved-in-Some.ensures.capacity in omega (arith, start, more));
      capacity = (let start = i.capacity in let more = c.push_reserved-in-Some.ensures.capacity in omega (arith, start, more));
    }

pub returns : goal.returns
returns g c =
    let i = c.loop-row.invariant in
    let is = turned_round c.loop-row.path.items c.reverse.new.self c.loop-row.path.len (search rules) (c.reverse.ensures.after ∙ ap reverse c.as_mut_slice.ensures.value) in record {
      path = rw is (tracing_end _ _ _ _ _ c.loop-row.path.items i.tracing c.in_default.ensures.root);
      leaf = rw is i.tracing.last;
      pairs = rw is i.tracing.traced;
      room = i.capacity;
    }
