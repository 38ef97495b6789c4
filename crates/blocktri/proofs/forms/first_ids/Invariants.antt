use Rattle.std.proofs.Common.{◌≡◌, map}
use Rattle.bip_defs.specs.Matrix.{upto}
use Rattle.blocktri.proofs.forms.first_ids.Given as goal

abbrev pub invariant-loop-k : goal.invariant-loop-k
invariant-loop-k g l = map g.I.Id.number l.ids.items ≡ upto l.k
