use Rattle.column_lists.proofs.GivenLists.{listed}
use Rattle.column_lists.proofs.given.GivenColumnsColumnLists.are_listed.Goals as goal

pub returns : goal.returns
returns g c = listed _ _ _ c.args.self.right (λ r d. c.columns_give_their_places.ensures.entries _ _ _ r d c.args.self.right)
