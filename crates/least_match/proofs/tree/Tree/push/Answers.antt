use Rattle.std.proofs.Common.{◌≡◌, arith, length, length-set, rules}
use Rattle.least_match.proofs.TreeLemmas.{fresh_in, indexed_few, indexed_push, indexed_room}
use Rattle.least_match.proofs.tree.Tree.push.Goals as goal

pub overflow_cast-len : goal.overflow_cast-len
overflow_cast-len c = let few = indexed_few _ _ c.self.invariant.1 in let le = c.self.invariant.1.few in let same : c.self.inside.queue.len ≡ length c.self.inside.queue.items = search rules in omega (arith, few, le, same, c.len.ensures)

pub push_reserved-requires : goal.push_reserved-requires
push_reserved-requires c =
    let fresh = fresh_in _ _ _ _ _ c.self.view_is c.col.view_is c.requires.col c.requires.fresh in
    let room = indexed_room _ _ _ c.self.invariant.1 fresh.0 fresh.1 in
    let le = c.self.invariant.0 in
    let same : c.self.inside.queue.len ≡ length c.self.inside.queue.items = search rules in
    omega (arith, room, le, same)

pub invariant_of-self : goal.invariant_of-self
invariant_of-self c =
    let fresh = fresh_in _ _ _ _ _ c.self.view_is c.col.view_is c.requires.col c.requires.fresh in
    let le = c.self.invariant.0 in
    let more = c.push_reserved.ensures.capacity in
    let same : c.len.result ≡ length c.self.inside.queue.items = search rules in
    (omega (arith, le, more, length-set c.self.inside.places.items c.col.inside.0 c.len.result), rw (c.push_reserved.ensures.items, same) (indexed_push _ _ c.col.inside.0 c.args.parent c.self.invariant.1 fresh.0 fresh.1))
