use Rattle.std.proofs.Common.{ap, arith, length, get_or, List, ℕ, []}
use Rattle.std.proofs.lemmas.Result.{on_ok_weaker}
use Rattle.edit_session.proofs.columns.Columns.widen.Goals as goal

pub returns-clause-room : goal.returns-clause-room
returns-clause-room c =
    let same = ap (λ (ls : List (List ℕ)). length (get_or ls c.args.col [])) c.widen.ensures.lists in
    let long = ap length (rw c.col.view_is at c.list.ensures) in
    let more = c.more_room-room.ensures in
    on_ok_weaker c.widen.result (λ has. omega (arith, same, long, more, has)) (rw c.col.view_is at c.widen.ensures.has)
