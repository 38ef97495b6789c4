use Rattle.tree_augment.proofs.laws.closed_mates_are_exchanged.Goals as goal

pub returns : goal.returns
returns c = λ s b ts m k of done e. done.exchanged m e
