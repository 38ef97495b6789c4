use Rattle.std.proofs.Common.{take}
use Rattle.bip_defs.specs.Forest.{roots_of}
use Rattle.tree_augment.specs.Augmented.{ExchangesItsPaths}
use Rattle.tree_augment.specs.Rounds.{AsksFor}
use Rattle.tree_augment.proofs.rounds.visit_each.Given as goal

abbrev pub invariant-loop-root : goal.invariant-loop-root
invariant-loop-root l = record {
  paths : ExchangesItsPaths l.forest l.board l.seat;
  asked : AsksFor (roots_of (take l.root-index l.part)) l.fn.seat l.seat;
}
