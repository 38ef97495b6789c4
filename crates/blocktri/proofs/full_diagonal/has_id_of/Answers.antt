use Rattle.std.proofs.Common.{◌≡◌, ◌∙◌, ℕ, ◌+◌, List, length, ap, arith, slice_index, subst, sym}
use Rattle.std.specs.List.{slice_range}
use Rattle.bip_defs.specs.Lists.{Among}
use Rattle.bip_defs.specs.Pieces.{piece}
use Rattle.blocktri.specs.Compressed.{CompressedLists}
use Rattle.blocktri.proofs.LookLemmas.{start_inside}
use Rattle.blocktri.proofs.full_diagonal.has_id_of.Goals as goal

pub has_id-requires : goal.has_id-requires
has_id-requires g c =
    let l = c.args.matrix.now in
    let starts : g.N.NumberList.numbers c.matrix.inside.starts ≡ l.starts = ap (λ (v : CompressedLists). v.starts) c.matrix.view_is in
    let ids : g.N.NumberList.numbers c.matrix.inside.ids ≡ l.ids = ap (λ (v : CompressedLists). v.ids) c.matrix.view_is in
    let lt = c.requires.list in
    let one = c.requires.compressed.starts_are.one in
    let within = start_inside l.starts l.ids c.requires.compressed.starts_are (c.args.list + 1) (omega (arith, lt, one)) in
    let to = c.at-to.ensures ∙ ap (λ (xs : List ℕ). slice_index xs (c.args.list + 1)) starts in
    let long = ap length ids in
    omega (arith, within, to, long)

pub returns : goal.returns
returns g c =
    let l = c.args.matrix.now in
    let list = c.args.list in
    let id = c.args.id in
    let starts : g.N.NumberList.numbers c.matrix.inside.starts ≡ l.starts = ap (λ (v : CompressedLists). v.starts) c.matrix.view_is in
    let ids : g.N.NumberList.numbers c.matrix.inside.ids ≡ l.ids = ap (λ (v : CompressedLists). v.ids) c.matrix.view_is in
    let from = c.at-from.ensures ∙ ap (λ (xs : List ℕ). slice_index xs list) starts in
    let to = c.at-to.ensures ∙ ap (λ (xs : List ℕ). slice_index xs (list + 1)) starts in
    let same : slice_range (g.N.NumberList.numbers c.matrix.inside.ids) c.at-from.result c.at-to.result ≡ piece l.starts l.ids list = cc in
    let entry = c.columns_give_their_places.ensures.entries l.others l.starts l.ids id list c.requires.compressed in (
      λ yes. entry.1 (c.requires.list, subst (λ xs. Among id xs) same (c.has_id.ensures.0 yes)),
      λ e. c.has_id.ensures.1 (subst (λ xs. Among id xs) (sym same) (entry.0 e).1),
    )
