use Rattle.matching_tests.proofs.searches.finds_the_path_or_the_missed_columns.Given as goal

abbrev pub ghosts-first_wrong : goal.ghosts-first_wrong
ghosts-first_wrong g a = record { name = a.blank.name; parts = a.blank.parts }
