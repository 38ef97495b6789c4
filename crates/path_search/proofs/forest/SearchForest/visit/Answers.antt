use Rattle.std.proofs.Common.{◌∙◌, sym, true≢false}
use Rattle.path_search.proofs.forest.SearchForest.visit.Goals as goal

pub reach-requires : goal.reach-requires
reach-requires g c = rw c.mark.ensures (c.requires.room c.in-Some.col c.in-Some.ensures.found (λ h. true≢false (sym (c.is_marked.ensures.1 h) ∙ c.if-is_marked.false)))
