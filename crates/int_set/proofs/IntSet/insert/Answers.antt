use Rattle.std.proofs.Common.{arith}
use Rattle.int_set.proofs.Views.{inserted_view}
use Rattle.int_set.proofs.IntSet.insert.Goals as goal

pub returns-clause-members : goal.returns-clause-members
returns-clause-members c =
    inserted_view _ _ _ _ _ _ _ _ c.self.view_is c.as_mut_slice-words.ensures.value (omega arith) c.requires c.mark.ensures.set c.mark.ensures.others
