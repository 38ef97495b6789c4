use Rattle.tree_augment.proofs.WorkerLemmas.{augmented}
use Rattle.tree_augment.proofs.laws.rounds_augment.Goals as goal

pub returns : goal.returns
returns c = λ s b ts us of all none went. augmented ts us of none went (λ same. c.seats_stay_all.ensures b ts us same all) (λ m whole e. c.each_tree_has_one_taker.ensures b m us whole e) (λ m e. c.mates_are_those_set.ensures b m us e)
