use Rattle.std.proofs.Common.{arith}
use Rattle.int_set.proofs.Views.{taken_view}
use Rattle.int_set.proofs.IntSet.take_least.Goals as goal

pub returns-clause-least : goal.returns-clause-least
returns-clause-least c =
    taken_view _ _ _ _ _ _ _ _ c.self.view_is c.as_mut_slice-words.ensures.value (omega arith) c.clear.ensures.clear c.clear.ensures.others c.in_ok-least.ensures.least.0 c.in_ok-least.ensures.least.1
