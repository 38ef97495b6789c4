use Rattle.btf_text.proofs.NeighbourRows.{contained}
use Rattle.btf_text.proofs.hall.Hall.has.Goals as goal

pub returns-else-self : goal.returns-else-self
returns-else-self c = rw (c.contains.ensures.value, c.self.view_is) (contained c.args.col c.args.self.now)
