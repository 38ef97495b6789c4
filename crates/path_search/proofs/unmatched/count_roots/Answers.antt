use Rattle.std.proofs.Common.{◌∙◌, ◌++◌, ◌∷◌, [], arith, length-append, sym, true≢false}
use Rattle.bip_defs.proofs.Below.{listed_more, listed_same}
use Rattle.path_search.proofs.RootLemmas.{listed_all, listed_short}
use Rattle.path_search.proofs.unmatched.count_roots.Goals.{then-is_root, else-is_root}
use Rattle.path_search.proofs.unmatched.count_roots.Goals as goal

pub overflow_add-count : goal.overflow_add-count
overflow_add-count g c =
    let (w, l, e) = c.loop-col.invariant in
    let le = listed_short _ _ w l in
    omega (arith, c.loop-col-test.true, c.cols-col-end.type_inv)

pub loop-col-preserved : goal.loop-col-preserved
loop-col-preserved g c =
    let (w, l, e) = c.loop-col.invariant in
    elim c.if-is_root.branch [
      | then-is_root v ↦ (w ++ c.loop-col.col ∷ [], listed_more _ _ w l (c.is_root.ensures.0 v.if-is_root.true), (let same = v.count-is in omega (arith, length-append w (c.loop-col.col ∷ []))))
      | else-is_root v ↦ (w, listed_same _ _ w l (λ k. true≢false (sym (c.is_root.ensures.1 k) ∙ v.if-is_root.false)), v.count-is ∙ e)
    ]

pub returns : goal.returns
returns g c =
    let (w, l, e) = c.loop-col.invariant in
    (w, listed_all _ _ c.loop-col.col _ (omega (arith, c.cols-col-end.ensures, c.loop-col-test.false, c.loop-col.auto.col-end)) l, e)
