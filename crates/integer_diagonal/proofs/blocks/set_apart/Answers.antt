use Rattle.std.proofs.Common.{◌∙◌, ℕ, List, ap, length}
use Rattle.integer_diagonal.proofs.blocks.set_apart.Goals as goal

pub at_prices-requires-clause-rows : goal.at_prices-requires-clause-rows
at_prices-requires-clause-rows g c = c.in_ok-prices-2.ensures ∙ ap (λ (z : List ℕ). length z) c.as_slice-3.ensures.value ∙ c.in_ok-prices.ensures

pub at_prices-requires-clause-cols : goal.at_prices-requires-clause-cols
at_prices-requires-clause-cols g c = c.in_ok-duals-2.ensures ∙ ap (λ (z : List ℕ). length z) c.as_slice-2.ensures.value ∙ c.in_ok-duals.ensures

pub returns-clause-assignment : goal.returns-clause-assignment
returns-clause-assignment g c = c.at_prices.ensures.assignment

pub returns-clause-matching : goal.returns-clause-matching
returns-clause-matching g c = c.at_prices.ensures.matching

pub returns-clause-room : goal.returns-clause-room
returns-clause-room g c = c.at_prices.ensures.room
