use Rattle.std.proofs.Common.{refl}
use Rattle.mm_defs.specs.Words.{words, lines}
use Rattle.mm_defs.specs.File.{line_faults, rest_of}
use Rattle.mm_defs.proofs.worked.worked_rests.Goals as goal

pub returns-clause-good : goal.returns-clause-good
unfolding words lines line_faults
returns-clause-good c = refl

pub returns-clause-rests : goal.returns-clause-rests
unfolding words lines rest_of
returns-clause-rests c = refl
