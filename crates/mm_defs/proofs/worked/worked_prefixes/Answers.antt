use Rattle.std.proofs.Common.{refl}
use Rattle.mm_defs.specs.Words.{words, lines}
use Rattle.mm_defs.specs.File.{line_faults, first_fault}
use Rattle.mm_defs.proofs.worked.worked_prefixes.Goals as goal

pub returns : goal.returns
unfolding words lines line_faults first_fault
returns c = refl
