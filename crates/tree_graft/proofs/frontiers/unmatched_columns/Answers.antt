use Rattle.std.proofs.Common.{◌<◌, ◌∙◌, ap, arith, not}
use Rattle.bip_defs.specs.Lists.{Among}
use Rattle.bip_defs.specs.Matching.{cols_of}
use Rattle.bip_defs.specs.Matrix.{Matrix, Place, cols}
use Rattle.bip_defs.proofs.Below.{listed_more, listed_same}
use Rattle.bip_defs.proofs.Sets.{col_among, lists_same}
use Rattle.tree_graft.proofs.SearchLemmas.{none_holds, some_holds}
use Rattle.tree_graft.proofs.frontiers.unmatched_columns.Goals.{then-is_none+in_ok-push, else-is_none}
use Rattle.tree_graft.proofs.frontiers.unmatched_columns.Goals as goal

pub loop-number-preserved : goal.loop-number-preserved
loop-number-preserved c = elim c.if-is_none.branch [
  | then-is_none+in_ok-push w ↦ rw (w.columns-is, w.in_ok-push.ensures.items) (listed_more (λ x. ¬ Among x (cols_of c.args.forest.now.base)) c.loop-number.number c.loop-number.columns.items c.loop-number.invariant (none_holds (¬ Among c.loop-number.number (cols_of c.args.forest.now.base)) c.base_row.result (c.is_none.ensures ∙ ap not w.if-is_none.true) c.base_row.ensures.none))
  | else-is_none w ↦ rw w.columns-is (listed_same (λ x. ¬ Among x (cols_of c.args.forest.now.base)) c.loop-number.number c.loop-number.columns.items c.loop-number.invariant (λ free. let (r, m) = some_holds (λ r. Among {X = Place} (r, c.loop-number.number) c.args.forest.now.base) c.base_row.result (c.is_none.ensures ∙ ap not w.if-is_none.false) c.base_row.ensures.found in free (col_among r c.loop-number.number c.args.forest.now.base m)))
]

pub returns : goal.returns
returns c = lists_same (λ x. (x < c.loop-number.number) × (¬ Among x (cols_of c.args.forest.now.base))) (λ x. (x < cols c.args.forest.now.matrix) × (¬ Among x (cols_of c.args.forest.now.base))) c.loop-number.columns.items (λ x h. (let lt = h.0 in omega (arith, lt, c.loop-number.auto.number-end, c.cols-number-end.ensures, ap (λ (a : Matrix). cols a) c.pattern.ensures), h.1)) (λ x h. (let lt = h.0 in omega (arith, lt, c.loop-number-test.false, c.cols-number-end.ensures, ap (λ (a : Matrix). cols a) c.pattern.ensures), h.1)) c.loop-number.invariant
