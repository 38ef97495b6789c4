use Rattle.std.proofs.Common.{sym, ◌∙◌}
use Rattle.sp_ids.proofs.Kept.{values-items_of}
use Rattle.sp_ids.proofs.triples.Triples.values.Goals as goal

pub returns : goal.returns
returns c =
    let h = rw (← c.self.view_is) at c.requires in
    rw (← c.self.view_is) (c.as_slice.ensures.value ∙ sym (values-items_of _ _ (c.self.invariant.with_values h)))
