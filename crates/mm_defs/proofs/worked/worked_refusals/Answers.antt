use Rattle.std.proofs.Common.{refl}
use Rattle.mm_defs.specs.Words.{words, lines}
use Rattle.mm_defs.specs.File.{line_faults, first_fault}
use Rattle.mm_defs.proofs.worked.worked_refusals.Goals as goal

pub returns-clause-banners : goal.returns-clause-banners
unfolding words lines line_faults first_fault
returns-clause-banners c = refl

pub returns-clause-sizes : goal.returns-clause-sizes
unfolding words lines line_faults first_fault
returns-clause-sizes c = refl

pub returns-clause-entries : goal.returns-clause-entries
unfolding words lines line_faults first_fault
returns-clause-entries c = refl

pub returns-clause-values : goal.returns-clause-values
unfolding words lines line_faults first_fault
returns-clause-values c = refl
