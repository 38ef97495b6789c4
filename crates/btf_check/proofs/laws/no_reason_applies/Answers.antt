use Rattle.btf_check.proofs.Verdicts.{met_by_valid, valid_by_met}
use Rattle.btf_check.proofs.laws.no_reason_applies.Goals as goal

pub returns : goal.returns
returns c = λ a bytes pattern. (valid_by_met a bytes, met_by_valid c.one_spelling.ensures c.reports_can_be_read.ensures a bytes pattern)
