use Rattle.bip_defs.proofs.Searches.{parts_from_searches}
use Rattle.bip_defs.proofs.searches_give_parts.Goals as goal

pub returns : goal.returns
returns c = parts_from_searches
