use Rattle.std.proofs.Common.{arith}
use Rattle.tree_augment.proofs.WorkerLemmas.{ready}
use Rattle.tree_augment.proofs.workers.augment_under.Goals as goal

pub share_work-requires-clause-begin : goal.share_work-requires-clause-begin
share_work-requires-clause-begin g c κs within = ready c.args.seats.now (record { board = c.requires.board; trees = c.leaves.ensures.trees }) c.requires.all c.requires.none_taken

pub returns : goal.returns
returns g c = c.rounds_augment.ensures c.args.forest.now c.args.board.now c.args.seats.now c.share_work.new.workers (record { board = c.requires.board; trees = c.leaves.ensures.trees }) c.requires.all c.requires.none_taken c.share_work.ensures.always

pub share_work-requires-clause-few : goal.share_work-requires-clause-few
share_work-requires-clause-few g c κs within = let few = c.seats_are_few.ensures c.args.board.now c.requires.all in omega (arith, few)
