use Rattle.std.proofs.Common.{◌∙◌, ◌≤◌, ℕ, sym, subst}
use Rattle.bip_graph.specs.Matching.{none}
use Rattle.square_components.specs.Found.{IsFound}
use Rattle.square_components.specs.Numbers.{look}
use Rattle.square_components.proofs.EndLemmas.{begins, ends}
use Rattle.square_components.proofs.explore.searched.Goals as goal

pub explore_all-requires-clause-search : goal.explore_all-requires-clause-search
explore_all-requires-clause-search g c = begins _ _ _ _ _ c.requires.maximum c.are_listed.ensures c.requires.square_rows c.in_ok-search.ensures

pub returns : goal.returns
returns g c =
    let a = g.C.ColumnLists.matrix c.args.columns in
    let pairs = g.S.SquarePart.pairs c.args.part in
    let s = c.explore_all.new.self in
    let small : (r : ℕ) → look s.state r ≤ none = subst (λ xs. (r : ℕ) → look xs r ≤ none) (c.as_slice.ensures.value ∙ c.end-state.ensures.state) c.are_small.ensures in
    let found : IsFound a pairs s.state s.count = ends a (g.C.ColumnLists.listed c.args.columns) pairs s c.requires.maximum c.explore_all.ensures.search c.explore_all.ensures.empty (λ r col sc h. c.explore_all.ensures.met r col (c.requires.square_cols.complete col sc) h) small in
    subst (IsFound a pairs c.end-state.result.0.items) (sym c.end-state.ensures.count) (subst (λ xs. IsFound a pairs xs s.count) (sym c.end-state.ensures.state) found)
