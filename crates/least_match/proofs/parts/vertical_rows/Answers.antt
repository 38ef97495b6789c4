use Rattle.std.proofs.lemmas.Result.{IfOk-weaker}
use Rattle.bip_defs.proofs.Transposed.{turned_marks}
use Rattle.least_match.proofs.parts.vertical_rows.Goals as goal

pub reached-requires : goal.reached-requires
reached-requires c = (c.matchings_of_the_transpose.ensures.maximum _ _).0 c.requires.maximum

pub returns : goal.returns
returns c = IfOk-weaker c.reached.result _ _ (λ v k. turned_marks c.args.pattern.now v.items k) c.reached.ensures
