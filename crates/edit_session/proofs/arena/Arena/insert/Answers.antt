use Rattle.std.proofs.Common.{rules, refl}
use Rattle.bip_defs.proofs.Sets.{written_over}
use Rattle.edit_session.proofs.ArenaLemmas.{inserted, same_room}
use Rattle.edit_session.proofs.arena.Arena.insert.Goals as goal

pub returns-clause-lists : goal.returns-clause-lists
returns-clause-lists c =
    let up = rw c.as_mut_slice.ensures.value at c.shift_up.ensures in
    rw (written_over c.shift_up.new.slots c.self.inside.slots.items c.self.inside.slots.len up.long (search rules))
    (inserted c.self.inside.slots.items c.shift_up.new.slots c.self.inside.spans.items c.args.list c.args.at c.args.row c.index-span.result.now c.args.self.now c.self.view_is c.self.invariant c.index-span.ensures up c.requires.list c.requires.at c.requires.room)

pub returns-clause-room : goal.returns-clause-room
returns-clause-room c = same_room c.self.inside.slots.items c.self.inside.spans.items c.args.list c.index-span.result.now _ c.args.self.now c.self.view_is c.index-span.ensures c.requires.list refl
