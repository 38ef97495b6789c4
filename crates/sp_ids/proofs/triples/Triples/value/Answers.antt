use Rattle.std.proofs.Common.{rules, arith, sym, ◌∙◌, ◌≡◌, length, get_or, List, ℤ, pos, to_z, of_z, w64, ap}
use Rattle.std.proofs.lemmas.List.{get_or_default}
use Rattle.sp_ids.proofs.Kept.{length-items_of, values-items_of}
use Rattle.sp_ids.proofs.triples.Triples.value.Goals as goal

pub index-requires : goal.index-requires
index-requires c =
    let h = rw (← c.self.view_is, length-items_of) at c.requires.index in
    let f = rw (← c.self.view_is) at c.requires.field in
    let same : length c.self.inside.values.items ≡ length c.self.inside.places.items = c.self.invariant.with_values f in
    search (rules, h, same)

pub returns : goal.returns
returns c =
    let h = rw (← c.self.view_is, length-items_of) at c.requires.index in
    let f = rw (← c.self.view_is) at c.requires.field in
    let same : length c.self.inside.values.items ≡ length c.self.inside.places.items = c.self.invariant.with_values f in
    let keeps : to_z w64 (of_z w64 c.index.result.now) ≡ c.index.result.now = search rules in
    rw (← c.self.view_is) (keeps ∙ c.index.ensures ∙ get_or_default c.self.inside.values.items c.args.i c.index.result.now (pos 0) (omega (arith, h, same))
    ∙ ap (λ (us : List ℤ). get_or us c.args.i (pos 0)) (sym (values-items_of _ _ same)))
