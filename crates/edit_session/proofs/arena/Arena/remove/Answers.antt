use Rattle.std.proofs.Common.{rules, refl}
use Rattle.bip_defs.proofs.Sets.{written_over}
use Rattle.edit_session.proofs.ArenaLemmas.{filled_list, removed, same_room}
use Rattle.edit_session.proofs.arena.Arena.remove.Goals as goal

pub returns-clause-lists : goal.returns-clause-lists
returns-clause-lists c =
    let down = rw c.as_mut_slice.ensures.value at c.shift_down.ensures in
    rw (written_over c.shift_down.new.slots c.self.inside.slots.items c.self.inside.slots.len down.long (search rules))
    (removed c.self.inside.slots.items c.shift_down.new.slots c.self.inside.spans.items c.args.list c.args.at c.index-span.result.now c.args.self.now c.self.view_is c.self.invariant c.index-span.ensures down c.requires.list c.requires.at)

pub returns-clause-room : goal.returns-clause-room
returns-clause-room c = same_room c.self.inside.slots.items c.self.inside.spans.items c.args.list c.index-span.result.now _ c.args.self.now c.self.view_is c.index-span.ensures c.requires.list refl

pub returns-clause-filled : goal.returns-clause-filled
returns-clause-filled c = filled_list c.self.inside.slots.items c.self.inside.spans.items c.args.list c.args.self.now c.self.view_is c.self.invariant c.requires.list
