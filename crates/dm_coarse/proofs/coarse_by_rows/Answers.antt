use Rattle.bip_defs.proofs.Transposed.{turned_marks}
use Rattle.dm_coarse.proofs.coarse_by_rows.Goals as goal

pub reached-requires : goal.reached-requires
reached-requires c = (c.matchings_of_the_transpose.ensures.maximum _ _).0 c.requires.maximum

pub parts_by-requires : goal.parts_by-requires
parts_by-requires c = rw (c.as_slice.ensures.value, c.as_slice-2.ensures.value) (record { maximum = c.requires.maximum; horizontal = c.in_ok-cols.ensures; vertical = turned_marks _ _ c.in_ok-rows.ensures })
