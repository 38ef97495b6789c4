use Rattle.std.proofs.Common.{◌∙◌, ◌*◌, ◌/◌, ◌++◌, drop, subst, take, arith, ap, length, List}
use Rattle.bip_defs.specs.Matrix.{Place}
use Rattle.bip_defs.specs.Forest.{roots_of}
use Rattle.tree_augment.specs.Rounds.{AsksFor, HasGoneRound}
use Rattle.tree_augment.proofs.WorkerLemmas.{no_paths}
use Rattle.tree_augment.proofs.workers.RoundsWorkFlipSeatInfallible.run.Goals as goal

pub go_round-requires-clause-from : goal.go_round-requires-clause-from
go_round-requires-clause-from c = let within = c.share_start-from.ensures.within in let same = ap (λ (ps : List Place). length ps) c.leaves.ensures.leaves in omega (arith, within, same)

pub go_round-requires-clause-paths : goal.go_round-requires-clause-paths
go_round-requires-clause-paths c = no_paths c.is_rightful.ensures c.requires.none_taken c.args.self.now.forest.now c.args.self.now.board.now

-- the round began where the worker's share does
went : (c : goal.After-go_round) → HasGoneRound c.args.self.now.forest.now c.args.self.now.board.now c.args.self.now.workers c.args.number c.args.seat.now c.go_round.new.seat
went c =
    let at = c.share_start-from.ensures.start ∙ ap (λ (ps : List Place). c.args.number * length ps / c.args.self.now.workers) c.leaves.ensures.leaves in
    record { asked = subst (λ n. AsksFor (roots_of (drop n c.args.self.now.forest.now.leaves ++ take n c.args.self.now.forest.now.leaves)) c.args.seat.now c.go_round.new.seat) at c.go_round.ensures.asked; paths = c.go_round.ensures.paths }

pub returns : goal.returns
returns c = record { always = went c; ok = went c }
