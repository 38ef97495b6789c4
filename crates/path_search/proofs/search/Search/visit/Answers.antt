use Rattle.std.proofs.Common.{arith}
use Rattle.path_search.proofs.Steps.{onward_entered, reaches_entered, unmarked_unvisited, visited_room}
use Rattle.path_search.proofs.search.Search.visit.Goals as goal

pub enter-requires-clause-row : goal.enter-requires-clause-row
enter-requires-clause-row g c = rw (c.look_ahead.ensures.same, c.requires.search.rows_are) c.in-Some.ensures.found.0.0

pub enter-requires-clause-room : goal.enter-requires-clause-room
enter-requires-clause-room g c =
    let f = c.requires.search in
    let room = visited_room _ _ _ _ _ _ _ f c.in-Some.ensures.found.0.0 (unmarked_unvisited _ _ _ _ _ _ _ f c.in-Some.ensures.unmarked) in
    rw (c.look_ahead.ensures.same, f.rows_are) (omega arith)

pub returns-in-Some : goal.returns-in-Some
returns-in-Some g c =
    let f = c.requires.search in
    let free = c.in-Some.ensures.found in
    rw (c.enter.ensures, c.look_ahead.ensures.same) (onward_entered _ _ _ (rw f.rows_are free.0.0) c.in-Some.ensures.unmarked, reaches_entered _ _ _ _ _ _ _ f free.0 free.1)
