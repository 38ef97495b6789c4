use Rattle.btf_check.proofs.VerdictLemmas.{one_verdict}
use Rattle.btf_check.proofs.laws.one_verdict.Goals as goal

pub returns : goal.returns
returns c = one_verdict c.no_reason_applies.ensures
