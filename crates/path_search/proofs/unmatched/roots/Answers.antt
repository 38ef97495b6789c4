use Rattle.std.proofs.Common.{◌∙◌, arith, sym, true≢false}
use Rattle.bip_defs.proofs.Below.{listed_more, listed_same}
use Rattle.path_search.proofs.RootLemmas.{listed_all}
use Rattle.path_search.proofs.unmatched.roots.Goals.{then-is_root+in_ok-push, else-is_root}
use Rattle.path_search.proofs.unmatched.roots.Goals as goal

pub loop-number-preserved : goal.loop-number-preserved
loop-number-preserved g c = elim c.if-is_root.branch [
  | then-is_root+in_ok-push w ↦ rw (w.roots-is, w.in_ok-push.ensures.items) (listed_more _ _ _ c.loop-number.invariant (c.is_root.ensures.0 w.if-is_root.true))
  | else-is_root w ↦ rw w.roots-is (listed_same _ _ _ c.loop-number.invariant (λ k. true≢false (sym (c.is_root.ensures.1 k) ∙ w.if-is_root.false)))
]

pub returns : goal.returns
returns g c = listed_all _ _ c.loop-number.number _ (omega (arith, c.cols-number-end.ensures, c.loop-number-test.false, c.loop-number.auto.number-end)) c.loop-number.invariant
