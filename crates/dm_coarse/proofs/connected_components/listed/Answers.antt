use Rattle.std.proofs.Common.{◌∙◌, ◌∷◌, [], ◌++◌, ap, map, sym, List}
use Rattle.std.proofs.lemmas.List.{map-append, map-id}
use Rattle.bip_defs.specs.Blocks.{Block}
use Rattle.bip_defs.specs.Matrix.{upto}
use Rattle.bip_defs.proofs.Sets.{upto_more}
use Rattle.id_groups.specs.Groups.{block_of}
use Rattle.dm_coarse.proofs.connected_components.listed.Goals as goal

pub loop-number-preserved : goal.loop-number-preserved
loop-number-preserved c =
    let block = block_of c.args.rows.now c.args.cols.now in
    let rows = rw map-id at c.of.ensures in
    let cols = rw map-id at c.of-in-loop-number.ensures in
    let pushed = rw (rows, cols) at c.in_ok-push.ensures.ok in
    pushed
    ∙ ap (λ (bs : List Block). bs ++ block c.loop-number.number ∷ []) c.loop-number.invariant
    ∙ sym (ap (map block) (upto_more c.loop-number.number) ∙ map-append block (upto c.loop-number.number) (c.loop-number.number ∷ []))
