use Rattle.matching_tests.proofs.edit_sessions.each_edit_leaves_the_matrix_made_anew.Given as goal

abbrev pub ghosts-replays : goal.ghosts-replays
ghosts-replays g a = record { name = a.blank.name; parts = a.blank.parts }
