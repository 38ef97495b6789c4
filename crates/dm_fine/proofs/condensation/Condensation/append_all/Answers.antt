use Rattle.std.proofs.Common.{◌∙◌, List, [], ◌∷◌, ◌++◌, map, sym, ap}
use Rattle.std.proofs.lemmas.List.{map-append, map-id}
use Rattle.bip_defs.specs.Blocks.{Block}
use Rattle.bip_defs.specs.Matrix.{upto}
use Rattle.bip_defs.proofs.Sets.{upto_more}
use Rattle.id_groups.specs.Groups.{block_of}
use Rattle.dm_fine.proofs.condensation.Condensation.append_all.Goals as goal

pub loop-number-preserved : goal.loop-number-preserved
loop-number-preserved g c =
    let rows = rw map-id at c.of.ensures in
    let cols = rw map-id at c.of-in-loop-number.ensures in
    rw (rows, cols) at c.in_ok-push.ensures.ok
    ∙ ap (λ (bs : List Block). bs ++ block_of c.args.self.now.rows c.args.self.now.cols c.loop-number.number ∷ []) c.loop-number.invariant
    ∙ sym (ap (map (block_of c.args.self.now.rows c.args.self.now.cols)) (upto_more c.loop-number.number) ∙ map-append (block_of c.args.self.now.rows c.args.self.now.cols) (upto c.loop-number.number) (c.loop-number.number ∷ []))
