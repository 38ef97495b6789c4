use Rattle.std.proofs.Common.{◌∙◌, arith}
use Rattle.bip_defs.proofs.Slices.{items_same}
use Rattle.dm_coarse.proofs.SplitLemmas.{more_horizontal, more_square, more_vertical, split_end}
use Rattle.dm_coarse.proofs.split.split.Goals as goal
use Rattle.dm_coarse.proofs.split.split.Goals.{in-Horizontal+in_ok-push-in-Horizontal, in-Square+in_ok-push-in-Square, in-Vertical+in_ok-push-in-Vertical}

pub loop-at-preserved : goal.loop-at-preserved
loop-at-preserved g c =
    elim c.match-part_of.branch [
      | in-Horizontal+in_ok-push-in-Horizontal w ↦ more_horizontal g.F.Id.number _ _ _ _ _ _ _ _ _ c.of-row.ensures w.in-Horizontal.ensures c.loop-at.invariant (items_same w.horizontal_rows-is ∙ w.in_ok-push-in-Horizontal.ensures.items) (items_same w.square_rows-is) (items_same w.vertical_rows-is)
      | in-Square+in_ok-push-in-Square w ↦ more_square g.F.Id.number _ _ _ _ _ _ _ _ _ c.of-row.ensures w.in-Square.ensures c.loop-at.invariant (items_same w.horizontal_rows-is) (items_same w.square_rows-is ∙ w.in_ok-push-in-Square.ensures.items) (items_same w.vertical_rows-is)
      | in-Vertical+in_ok-push-in-Vertical w ↦ more_vertical g.F.Id.number _ _ _ _ _ _ _ _ _ c.of-row.ensures w.in-Vertical.ensures c.loop-at.invariant (items_same w.horizontal_rows-is) (items_same w.square_rows-is) (items_same w.vertical_rows-is ∙ w.in_ok-push-in-Vertical.ensures.items)
    ]

pub returns : goal.returns
returns g c = split_end _ _ _ _ (omega (arith, c.rows-at-end.ensures, c.loop-at-test.false)) c.loop-at.invariant
