use Rattle.std.proofs.Common.{◌∙◌, sym}
use Rattle.bip_defs.proofs.Transposed.{turned_length}
use Rattle.bip_graph.proofs.opposite.ColOpposite.size.Goals as goal

pub returns : goal.returns
returns c = c.size.ensures.size ∙ sym (turned_length c.args.matching.now.pairs)
