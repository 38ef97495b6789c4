use Rattle.level_sharing.proofs.ShareLemmas.{shares_cover_list, share_within}
use Rattle.level_sharing.proofs.laws.shares_cover_a_list.Goals as goal

pub returns-clause-cover : goal.returns-clause-cover
returns-clause-cover c = λ xs workers x. shares_cover_list xs workers x

pub returns-clause-within : goal.returns-clause-within
returns-clause-within c = λ xs workers i x. share_within xs workers i x
