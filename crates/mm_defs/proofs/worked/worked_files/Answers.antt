use Rattle.std.proofs.Common.{refl}
use Rattle.mm_defs.specs.Words.{words, lines}
use Rattle.mm_defs.specs.File.{line_faults, entries_of}
use Rattle.mm_defs.proofs.worked.worked_files.Goals as goal

pub returns-clause-coordinate : goal.returns-clause-coordinate
unfolding words lines line_faults entries_of
returns-clause-coordinate c = refl

pub returns-clause-array : goal.returns-clause-array
unfolding words lines line_faults entries_of
returns-clause-array c = refl
