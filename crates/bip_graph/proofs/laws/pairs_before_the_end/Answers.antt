use Rattle.std.proofs.Common.{true, false, refl}
use Rattle.bip_graph.proofs.Reports.{or_true, with_or_without}
use Rattle.bip_graph.proofs.laws.pairs_before_the_end.Goals as goal

pub returns : goal.returns
returns c = record {
  any = λ a v order t. with_or_without a v order true false t refl;
  least = λ a v order pairs t. with_or_without a v order pairs true t (or_true pairs);
}
