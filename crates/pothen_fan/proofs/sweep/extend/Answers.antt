use Rattle.bip_defs.proofs.Sets.{col_among}
use Rattle.pothen_fan.proofs.Phases.{extends_either, extends_matched}
use Rattle.pothen_fan.proofs.sweep.extend.Goals as goal

pub returns-in-Some-clause-extends : goal.returns-in-Some-clause-extends
returns-in-Some-clause-extends g c = extends_matched _ _ _ _ (col_among _ _ (g.F.Opposite.seen c.args.matching.now).pairs c.in-Some.ensures.found)

pub returns-in-None-clause-extends : goal.returns-in-None-clause-extends
returns-in-None-clause-extends g c =
    let e = c.augment.ensures in
    extends_either _ _ _ _ _ _ c.augment.result e.found e.stays e.failed
