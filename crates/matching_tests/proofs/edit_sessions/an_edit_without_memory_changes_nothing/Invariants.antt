use Rattle.matching_tests.proofs.edit_sessions.an_edit_without_memory_changes_nothing.Given as goal

abbrev pub ghosts-replays_side_by_side : goal.ghosts-replays_side_by_side
ghosts-replays_side_by_side g a = record { name = a.blank.name; parts = a.blank.parts }
