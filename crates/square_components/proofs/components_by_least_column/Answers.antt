use Rattle.square_components.proofs.EndLemmas.{one_found}
use Rattle.square_components.proofs.components_by_least_column.Goals as goal

pub returns-then-count-eq1 : goal.returns-then-count-eq1
returns-then-count-eq1 g c = one_found _ _ _ _ c.in_ok-states.ensures c.if-count-eq1.true
