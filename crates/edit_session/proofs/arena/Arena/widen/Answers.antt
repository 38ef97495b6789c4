use Rattle.std.proofs.Common.{rules}
use Rattle.edit_session.proofs.ArenaLemmas.{widened, widened_has, widened_room}
use Rattle.edit_session.proofs.arena.Arena.widen.Goals as goal

pub returns-clause-lists : goal.returns-clause-lists
returns-clause-lists c =
    widened c.self.inside.slots.items c.extend_from_within.new.self.items c.resize.new.self.items c.self.inside.spans.items c.args.list c.args.room c.len-start.result c.index-span.result.now c.args.self.now c.self.view_is c.self.invariant c.index-span.ensures
    (search rules)
    (search rules)
    (rw (c.in_ok-extend_from_within.ensures.items, c.in_ok-reserve.ensures.items) (search rules))
    (λ k d a b. c.in_ok-resize.ensures.by_index.0 k d a (search rules))
    c.requires.list
    c.requires.room

pub returns-clause-ok : goal.returns-clause-ok
returns-clause-ok c = widened_room c.self.inside.slots.items c.self.inside.spans.items c.args.list _ c.args.self.now c.self.view_is

pub returns-clause-has : goal.returns-clause-has
returns-clause-has c = widened_has c.self.inside.slots.items c.self.inside.spans.items c.args.list _ c.args.self.now c.self.view_is c.requires.list
