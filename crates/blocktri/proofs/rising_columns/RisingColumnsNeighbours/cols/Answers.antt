use Rattle.std.proofs.Common.{sym}
use Rattle.bip_defs.proofs.Sets.{upto_mapped}
use Rattle.blocktri.proofs.rising_columns.RisingColumnsNeighbours.cols.Goals as goal

pub returns : goal.returns
returns c = rw (c.as_slice.ensures.value, ← c.self.view_is) (sym (upto_mapped _ _))
