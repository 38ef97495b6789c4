use Rattle.std.proofs.Common.{◌≡◌, map}
use Rattle.bip_defs.specs.Matrix.{upto}
use Rattle.id_groups.specs.Groups.{block_of}
use Rattle.dm_fine.proofs.condensation.Condensation.append_all.Given as goal

abbrev pub invariant-loop-number : goal.invariant-loop-number
invariant-loop-number g l = l.blocks ≡ map (block_of l.self.rows l.self.cols) (upto l.number)
