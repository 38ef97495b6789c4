use Rattle.std.proofs.Common.{refl}
use Rattle.bip_graph.proofs.DiagonalBlocks.{from_the_end, from_the_start}
use Rattle.bip_graph.proofs.examples.lower_triangle_in_two_orders.Goals as goal

pub returns : goal.returns
returns c = record { orders = refl; from_the_end = from_the_end; from_the_start = from_the_start }
