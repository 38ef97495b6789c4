use Rattle.bip_defs.proofs.Sets.{among_take}
use Rattle.level_sharing.proofs.ShareLemmas.{among_drop}
use Rattle.level_sharing.proofs.shares.share.Goals as goal

pub returns-clause-within : goal.returns-clause-within
returns-clause-within g c = λ x m. among_drop c.share_start.result x c.args.list.now (among_take _ x _ m)
