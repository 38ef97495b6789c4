use Rattle.std.proofs.Common.{◌∙◌, sym}
use Rattle.std.proofs.lemmas.Result.{on_ok_weaker}
use Rattle.tree_graft.proofs.FrontierLemmas.{unmatched_are_frontier}
use Rattle.tree_graft.proofs.SearchLemmas.{none_listed}
use Rattle.tree_graft.proofs.levels.PhaseSearch.first_frontier.Goals as goal

pub returns-then-is_empty-clause-level : goal.returns-then-is_empty-clause-level
returns-then-is_empty-clause-level g c =
    let none = sym c.claims.ensures.claims ∙ none_listed c.claims.result.now (sym c.is_empty.ensures ∙ c.if-is_empty.true) in
    on_ok_weaker c.unmatched_columns.result (λ lists. record {
      ready = c.requires;
      frontier = unmatched_are_frontier c.args.forest.now c.unmatched_columns.new.columns.items none c.requires.sized.small.1 lists;
    }) c.unmatched_columns.ensures
