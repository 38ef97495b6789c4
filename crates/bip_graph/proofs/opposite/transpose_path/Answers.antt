use Rattle.std.proofs.Common.{◌∙◌, ap, refl}
use Rattle.bip_defs.specs.Matching.{transposed_places}
use Rattle.bip_graph.proofs.Backwards.{turned_to_all, turned_to_more}
use Rattle.bip_graph.proofs.opposite.transpose_path.Goals as goal

pub loop-at-init : goal.loop-at-init
loop-at-init c = refl

pub loop-at-preserved : goal.loop-at-preserved
loop-at-preserved c = turned_to_more _ _ _ _ _ _ _ c.loop-at.invariant c.loop-at-test.true c.row.view_is c.col.view_is

pub returns : goal.returns
returns c = c.loop-at.invariant ∙ turned_to_all _ _ c.loop-at-test.false ∙ ap transposed_places c.reverse.ensures.after
