use Rattle.std.proofs.Common.{◌∙◌}
use Rattle.bip_defs.proofs.Slices.{read_among}
use Rattle.tree_augment.proofs.RoundLemmas.{asks_all, asks_more, asks_none}
use Rattle.tree_augment.proofs.rounds.visit_each.Goals as goal

pub loop-root-init : goal.loop-root-init
loop-root-init c = record { paths = c.requires.paths; asked = asks_none c.args.seat.now }

pub visit-requires-clause-seat : goal.visit-requires-clause-seat
visit-requires-clause-seat c = c.loop-root.invariant.asked.same.board ∙ c.requires.seat

pub visit-requires-clause-leaf : goal.visit-requires-clause-leaf
visit-requires-clause-leaf c = c.requires.leaves _ _ (read_among c.loop-root-item.result c.args.part.now c.loop-root.root-index c.loop-root-test.true c.loop-root-item.is)

pub loop-root-preserved : goal.loop-root-preserved
loop-root-preserved c = record {
  paths = c.visit.ensures.paths;
  asked = asks_more c.loop-root.root-index c.args.part.now c.loop-root-item.result c.loop-root-test.true c.loop-root-item.is c.loop-root.invariant.asked c.visit.ensures.asked;
}

pub returns-clause-asked : goal.returns-clause-asked
returns-clause-asked c = asks_all c.loop-root.root-index c.args.part.now c.loop-root-test.false c.loop-root.invariant.asked
