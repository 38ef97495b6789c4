use Rattle.sp_pattern.proofs.ColumnLemmas.{given_entry, given_places}
use Rattle.sp_pattern.proofs.laws.columns_give_their_places.Goals as goal

pub returns-clause-places : goal.returns-clause-places
returns-clause-places c = given_places

pub returns-clause-entries : goal.returns-clause-entries
returns-clause-entries c = given_entry
