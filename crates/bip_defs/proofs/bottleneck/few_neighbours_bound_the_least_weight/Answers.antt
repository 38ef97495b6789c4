use Rattle.bip_defs.proofs.BottleneckLemmas.{light_pair}
use Rattle.bip_defs.proofs.bottleneck.few_neighbours_bound_the_least_weight.Goals as goal

pub returns : goal.returns
returns c = light_pair
