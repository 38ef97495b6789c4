use Rattle.std.proofs.lemmas.Result.{IfOk-weaker}
use Rattle.bip_defs.proofs.Covers.{covers_more}
use Rattle.pothen_fan.proofs.longer.complete_from_with_marks.Goals as goal

pub returns-in-None-clause-covered : goal.returns-in-None-clause-covered
returns-in-None-clause-covered g c = IfOk-weaker c.complete_from_with_marks.result _ _ (λ m k. covers_more c.in_ok-longer.ensures.covered k) c.complete_from_with_marks.ensures.covered
