use Rattle.std.proofs.Common.{◌≡◌, ◌∙◌, ◌-◌, length, ap, arith, refl}
use Rattle.blocktri.specs.Compressed.{CompressedLists}
use Rattle.blocktri.proofs.PairLemmas.{lists_matched_maximum}
use Rattle.blocktri.proofs.warm_start.are_lists_matched.Goals as goal

pub returns : goal.returns
returns g c = λ yes.
    let l = c.args.matrix.now in
    let starts : g.N.NumberList.numbers c.matrix.inside.starts ≡ l.starts = ap (λ (v : CompressedLists). v.starts) c.matrix.view_is in
    let len = c.len.ensures ∙ ap length starts in
    let end = c.loop-list-test.false in
    lists_matched_maximum l l.by_rows (length l.starts - 1) c.args.matching.now.pairs refl c.requires.matching.matching (λ r d. c.columns_give_their_places.ensures.entries l.others l.starts l.ids r d c.requires.compressed)
    (λ i lt some. c.loop-list.invariant i (omega (arith, lt, len, end)) some)
