use Rattle.bip_defs.proofs.EditLemmas.{edited_has_places}
use Rattle.bip_defs.proofs.edited_matrix.edited_matrix_has_the_edited_places.Goals as goal

pub returns : goal.returns
returns c = edited_has_places
