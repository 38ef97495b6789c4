use Rattle.std.proofs.Common.{rules, ◌≡◌, length, length-append}
use Rattle.edit_session.proofs.ArenaLemmas.{pushed_spans, pushed_view}
use Rattle.edit_session.proofs.arena.Arena.push.Goals as goal

pub invariant_of-self-2 : goal.invariant_of-self-2
invariant_of-self-2 c =
    let start : c.len.result ≡ length c.self.inside.slots.items = search rules in
    rw (c.in_ok-push.ensures.items, c.in_ok-reserve.ensures.items, c.in_ok-extend_from_slice.ensures.items, length-append, start)
    (pushed_spans c.self.inside.spans.items (length c.self.inside.slots.items) (length c.args.rows.now) c.self.invariant)

pub returns-clause-ok : goal.returns-clause-ok
returns-clause-ok c =
    let start : c.len.result ≡ length c.self.inside.slots.items = search rules in
    rw (c.in_ok-push.ensures.items, c.in_ok-reserve.ensures.items, c.in_ok-extend_from_slice.ensures.items, start)
    (pushed_view c.self.inside.slots.items c.args.rows.now c.self.inside.spans.items (length c.args.rows.now) c.args.self.now c.self.view_is c.self.invariant (search rules))
