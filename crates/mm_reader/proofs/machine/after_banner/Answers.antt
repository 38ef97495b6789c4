use Rattle.mm_reader.proofs.StepLaws.{banner_good, banner_bad}
use Rattle.mm_reader.proofs.machine.after_banner.Goals as goal

pub returns-in-Ok-clause-steps : goal.returns-in-Ok-clause-steps
returns-in-Ok-clause-steps c end bytes t l = let j = c.in-Ok.ensures.judged bytes l in banner_good end bytes c.in-Ok.header t j.0 j.1

pub returns-in-Err-clause-steps : goal.returns-in-Err-clause-steps
returns-in-Err-clause-steps c end bytes t l = banner_bad end bytes c.in-Err.kind (c.in-Err.ensures.judged bytes l)
