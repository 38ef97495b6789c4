use Rattle.std.proofs.Common.{◌<◌, ◌∙◌, List, Bool, length, ap, sym, subst}
use Rattle.path_search.specs.Search.{SearchState}
use Rattle.path_search.proofs.search.Search.next_place.Goals as goal

pub next_unmarked-requires-clause-in_range : goal.next_unmarked-requires-clause-in_range
next_unmarked-requires-clause-in_range g c = λ r h. subst (λ (xs : List Bool). r < length xs) (sym (c.as_slice.ensures.value ∙ ap (λ (s : SearchState). s.marks) c.self.view_is)) (c.requires.in_range r h)
