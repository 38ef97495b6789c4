use Rattle.std.proofs.Common.{◌≡◌, ◌∙◌, ◌+◌, ℕ, ◌<◌, List, ap, length, slice_index, sym, subst, refl}
use Rattle.integer_diagonal.proofs.PhaseLemmas.{dual_rises, ok_room, price_rises}
use Rattle.integer_diagonal.specs.Duals.{priced}
use Rattle.integer_diagonal.proofs.phases.phase.Goals as goal

pub higher-requires-clause-fits : goal.higher-requires-clause-fits
higher-requires-clause-fits g c = subst (λ (z : List ℕ). (r : ℕ) → slice_index z r + c.in_ok-distances.distances.radius < g.W.Width.limit) (sym c.as_slice.ensures.value) (price_rises (priced c.args.graph.now.weights.now c.args.assignment) c.args.assignment.matching c.args.graph.now.weights.now.matrix g.W.Width.limit _ c.requires.assignment refl c.requires.room c.in_ok-distances.ensures.radius)

pub higher-requires-2-clause-fits : goal.higher-requires-2-clause-fits
higher-requires-2-clause-fits g c = subst (λ (z : List ℕ). (r : ℕ) → slice_index z r + c.in_ok-distances.distances.radius < g.W.Width.limit) (sym c.as_slice-2.ensures.value) (dual_rises (priced c.args.graph.now.weights.now c.args.assignment) c.args.assignment.matching c.args.graph.now.weights.now.matrix g.W.Width.limit _ c.requires.assignment refl c.requires.room c.in_ok-distances.ensures.radius)

pub returns-clause-room : goal.returns-clause-room
returns-clause-room g c = ok_room _ c.in_ok-assignment.assignment.top g.W.Width.limit (λ a. a.prices ≡ c.in_ok-assignment.assignment.prices) (λ a. a.duals ≡ c.in_ok-assignment.assignment.duals) c.match_tight.result c.in_ok-assignment.ensures.room c.match_tight.ensures.same

pub higher-requires-clause-square : goal.higher-requires-clause-square
higher-requires-clause-square g c =
    let a = c.requires.assignment in
    a.rows_are ∙ c.requires.square ∙ sym (a.cols_are)

pub higher-requires-2-clause-square : goal.higher-requires-2-clause-square
higher-requires-2-clause-square g c =
    let a = c.requires.assignment in
    a.rows_are ∙ c.requires.square ∙ sym (a.cols_are)

pub higher-requires-clause-amounts : goal.higher-requires-clause-amounts
higher-requires-clause-amounts g c = ap (λ (z : List ℕ). length z) c.as_slice.ensures.value ∙ c.requires.assignment.feasible.prices_are ∙ sym c.requires.assignment.rows_are

pub higher-requires-2-clause-amounts : goal.higher-requires-2-clause-amounts
higher-requires-2-clause-amounts g c =
    let a = c.requires.assignment in
    ap (λ (z : List ℕ). length z) c.as_slice-2.ensures.value ∙ a.feasible.duals_are ∙ sym (a.rows_are ∙ c.requires.square)

pub at_prices-requires-clause-rows : goal.at_prices-requires-clause-rows
at_prices-requires-clause-rows g c = c.in_ok-prices.ensures ∙ c.requires.assignment.rows_are

pub at_prices-requires-clause-cols : goal.at_prices-requires-clause-cols
at_prices-requires-clause-cols g c = c.in_ok-duals.ensures ∙ c.requires.assignment.rows_are ∙ c.requires.square

pub match_tight-requires-clause-assignment : goal.match_tight-requires-clause-assignment
match_tight-requires-clause-assignment g c = c.in_ok-assignment.ensures.assignment

pub match_tight-requires-clause-room : goal.match_tight-requires-clause-room
match_tight-requires-clause-room g c = c.in_ok-assignment.ensures.room

pub returns-clause-assignment : goal.returns-clause-assignment
returns-clause-assignment g c = c.match_tight.ensures.assignment
