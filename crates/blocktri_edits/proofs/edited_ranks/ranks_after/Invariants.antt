use Rattle.blocktri_edits.proofs.edited_ranks.ranks_after.Given as goal

abbrev pub ghosts-session_ranks : goal.ghosts-session_ranks
ghosts-session_ranks g a = record { name = a.blank.name; parts = a.blank.parts }
