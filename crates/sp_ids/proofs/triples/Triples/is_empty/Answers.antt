use Rattle.std.proofs.Common.{rules, ◌≡◌, length, []}
use Rattle.sp_ids.specs.Stored.{items_of}
use Rattle.sp_ids.proofs.Kept.{nil-items_of, length-from_nil}
use Rattle.sp_ids.proofs.triples.Triples.is_empty.Goals as goal

pub returns : goal.returns
returns c =
    let ps = c.self.inside.places.items in
    let vs = c.self.inside.values.items in
    let to : length ps ≡ 0 → items_of ps vs ≡ [] = nil-items_of ps vs in
    let from : items_of ps vs ≡ [] → length ps ≡ 0 = length-from_nil ps vs in
    rw (← c.self.view_is) (search (rules, to, from))
