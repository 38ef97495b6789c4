use Rattle.std.proofs.Common.{◌∙◌, ◌<◌, arith, sym, true≢false}
use Rattle.bip_defs.specs.Parts.{IsHorizontalCol}
use Rattle.bip_defs.proofs.Below.{listed_more, listed_same}
use Rattle.bip_defs.proofs.Sets.{lists_same}
use Rattle.dm_coarse.proofs.known_side.horizontal_cols.Goals.{then-is_horizontal+in_ok-push, else-is_horizontal}
use Rattle.dm_coarse.proofs.known_side.horizontal_cols.Goals as goal

pub loop-number-preserved : goal.loop-number-preserved
loop-number-preserved c = elim c.if-is_horizontal.branch [
  | then-is_horizontal+in_ok-push w ↦ rw (w.columns-is, w.in_ok-push.ensures.items) (listed_more _ _ _ c.loop-number.invariant (c.is_horizontal.ensures.0 w.if-is_horizontal.true))
  | else-is_horizontal w ↦ rw w.columns-is (listed_same _ _ _ c.loop-number.invariant (λ k. true≢false (sym (c.is_horizontal.ensures.1 k) ∙ w.if-is_horizontal.false)))
]

pub returns : goal.returns
returns c = lists_same (λ x. (x < c.loop-number.number) × IsHorizontalCol c.args.pattern.now x) (IsHorizontalCol c.args.pattern.now) c.loop-number.columns.items (λ x h. h.1) (λ x h. (let lt = h.0 in omega (arith, lt, c.cols-number-end.ensures, c.loop-number-test.false), h)) c.loop-number.invariant
