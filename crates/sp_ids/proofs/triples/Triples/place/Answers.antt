use Rattle.std.proofs.Common.{rules, ◌∙◌}
use Rattle.std.proofs.lemmas.List.{get_or_default}
use Rattle.sp_ids.proofs.Kept.{length-items_of, places-items_of, is_inside_at}
use Rattle.sp_ids.proofs.triples.Triples.place.Goals as goal

pub index-requires : goal.index-requires
index-requires c = let h = rw (← c.self.view_is, length-items_of) at c.requires in search (rules, h)

pub returns-clause-place : goal.returns-clause-place
returns-clause-place c =
    let h = rw (← c.self.view_is, length-items_of) at c.requires in
    rw (← c.self.view_is, places-items_of) (c.index.ensures ∙ get_or_default _ _ _ _ h)

pub returns-clause-in_range : goal.returns-clause-in_range
returns-clause-in_range c =
    let h = rw (← c.self.view_is, length-items_of) at c.requires in
    rw (← c.self.view_is) (is_inside_at _ _ _ _ _ c.self.invariant.in_range h c.index.ensures)
