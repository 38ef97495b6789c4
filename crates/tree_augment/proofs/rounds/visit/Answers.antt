use Rattle.std.proofs.Common.{◌<◌, subst, sym}
use Rattle.bip_defs.proofs.Sets.{row_among}
use Rattle.tree_augment.proofs.RoundLemmas.{not_set_yet, saw_asked, saw_paths, takes, took_asked, took_paths}
use Rattle.tree_augment.proofs.rounds.visit.Goals as goal

pub take-requires-clause-root : goal.take-requires-clause-root
take-requires-clause-root c = subst (λ n. c.args.root < n) (sym c.requires.board.board.opened.cols) (c.requires.board.trees.leaf_in_range c.args.root c.args.leaf c.requires.leaf).0

pub exchange-requires-clause-took : goal.exchange-requires-clause-took
exchange-requires-clause-took c = takes c.args.seat.now c.args.root c.in-Mine.ensures.seat

pub exchange-requires-clause-unset : goal.exchange-requires-clause-unset
exchange-requires-clause-unset c = not_set_yet c.requires.board c.requires.paths c.in-Mine.ensures.known c.in-Mine.ensures.seat

pub returns-in-Mine-clause-paths : goal.returns-in-Mine-clause-paths
returns-in-Mine-clause-paths c = took_paths c.args.seat.now c.in-Mine.ensures.seat c.exchange.ensures (row_among c.args.root c.args.leaf c.args.forest.now.leaves c.requires.leaf) c.requires.paths

pub returns-in-Held-clause-paths : goal.returns-in-Held-clause-paths
returns-in-Held-clause-paths c = saw_paths c.args.seat.now c.args.root _ c.in-Held.ensures.seat c.requires.paths

pub returns-in-Mine-clause-asked : goal.returns-in-Mine-clause-asked
returns-in-Mine-clause-asked c = took_asked c.args.seat.now c.in-Mine.ensures.seat c.exchange.ensures

pub returns-in-Held-clause-asked : goal.returns-in-Held-clause-asked
returns-in-Held-clause-asked c = saw_asked c.args.seat.now c.args.root _ c.in-Held.ensures.seat
