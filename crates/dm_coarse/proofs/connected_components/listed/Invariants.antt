use Rattle.std.proofs.Common.{◌≡◌, map}
use Rattle.bip_defs.specs.Matrix.{upto}
use Rattle.id_groups.specs.Groups.{block_of}
use Rattle.dm_coarse.proofs.connected_components.listed.Given as goal

abbrev pub invariant-loop-number : goal.invariant-loop-number
invariant-loop-number l = l.blocks ≡ map (block_of l.rows l.cols) (upto l.number)
