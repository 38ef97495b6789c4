use Rattle.std.proofs.Common.{subst}
use Rattle.bip_defs.specs.Lists.{IsRising}
use Rattle.btf_text.proofs.Parts.{same_ids}
use Rattle.btf_text.proofs.hall.Hall.new.Goals as goal

pub invariant_of-result : goal.invariant_of-result
invariant_of-result c e = subst IsRising (same_ids c.args.cols.now) (c.rises-rising.ensures.rising.0 e)
